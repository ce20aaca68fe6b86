-- What `records_of` needs beside its invariant: the table of zeros at the start, and the step by a block.
use Rattle.std.proofs.Common.{◌≤◌, take, arith, ◌∙◌}
use Rattle.limits.specs.Limits.{most_extent}
use Rattle.view.proofs.Laws.{lengths}
use Rattle.tiling.proofs.Walk.{ends_more, lengths_next, order_room, shown_more, table_start}
use Rattle.tiling.proofs.records_of.Goals as goal

pub loop-b-init : goal.loop-b-init
loop-b-init c =
    let v = c.args.view in
    let room = order_room v.extent 0 (take v.used v.block) c.requires.narrow c.requires.order in
    let few : lengths (take v.used v.block) ≤ most_extent = omega (arith, room.0, c.requires.narrow) in
    (table_start (take v.used v.block) most_extent few, omega arith, room.1)

pub loop-b-preserved : goal.loop-b-preserved
loop-b-preserved c =
    let bs = take c.args.view.used c.args.view.block in
    let l = c.loop-b in
    let more = rw c.from.ensures at c.loop-b-test.true in
    let next = lengths_next bs l.b-index more in
    let stored = rw c.from.ensures at c.store_block.ensures in
    let to = rw c.from.ensures at c.from-at.ensures in
    (rw (stored, to) (shown_more bs l.b-index more l.records l.at ∙ l.invariant.0), omega (arith, next, to, l.invariant.1), ends_more bs l.b-index more l.invariant.2)
