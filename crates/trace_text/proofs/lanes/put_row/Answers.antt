use Rattle.std.proofs.Common.{◌≡◌, ◌≤◌, [], length, length-set, refl, ap, ◌∙◌, arith, add-zero, drop, take}
use mathlib.Core.List.{map}
use lib.ListN.{length-take}
use Rattle.lists.proofs.Loops.{drop_end}
use Rattle.lists.proofs.Parts.{drop_take_more}
use Rattle.lists.proofs.Sets.{sets_more}
use Rattle.line.specs.Line.{idle_lane, on}
use Rattle.trace_text.specs.TraceLine.{letter_of}
use Rattle.refuse.proofs.Shape.{shape_of}
use Rattle.trace_text.proofs.Rows.{taken_count}
use Rattle.trace_text.proofs.lanes.put_row.Goals as goal

pub loop-i-init : goal.loop-i-init
loop-i-init c = (rw add-zero, refl)

pub loop-i-preserved : goal.loop-i-preserved
loop-i-preserved c =
    let lp = c.loop-i in
    let count = c.row_length-count in
    let within : count.result ≤ length c.args.line.lane = omega (arith, count.ensures.1, (shape_of c.args.line c.well_formed.1.1.0).lanes_length) in
    let next = ap (map (on letter_of)) (drop_take_more c.args.line.lane lp.i count.result idle_lane c.loop-i-test.true within) in
    (rw c.letter.ensures (sets_more lp.out c.args.at lp.i next) ∙ lp.invariant.0, simp length-set lp.invariant.1)

pub returns : goal.returns
returns c =
    let lp = c.loop-i in
    let l = c.args.line in
    let count = c.row_length-count in
    let same = taken_count (on letter_of) l.lane l.lanes count.result count.ensures.0 in
    let at_end : lp.i ≡ count.result = omega (arith, c.loop-i-test.false) in
    let none : drop lp.i (take count.result l.lane) ≡ [] = drop_end (take count.result l.lane) lp.i (omega (arith, c.loop-i-test.false, length-take count.result l.lane)) in
    (record { bytes = rw (none, same) at lp.invariant.0; ends = omega (arith, at_end, count.ensures.0) }, omega (arith, count.ensures.1))
