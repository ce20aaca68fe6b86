-- The kind and the lane are read in order, or the sheet ends before.
use Prim.Native.Nat.{◌+◌, ◌<◌}
use mathlib.Core.Path.{sym}
use native.Mathlib.Omega.{arith}
use borrow.Author.Tests.{leb-false, leb-true}
use lib.ListN.{length}
use Rattle.decode_fields.proofs.InOrder.{and_then, cut_later, got, got_said, missed}
use Rattle.call_head.proofs.LaneKinds.{above_lane, below_lane, is_lane}
use Rattle.call_head.proofs.Heads.{a_head, cut_no_lane, no_head, other_no_lane, short_no_lane}
use Rattle.call_head.proofs.head_at.Goals as goal

pub returns-in_default : goal.returns-in_default
returns-in_default c =
    let cut : length c.args.sheet.now < c.args.at + 2 = omega (arith, (missed (sym c.in_default.ensures)).ends) in
    no_head (cut_no_lane c.args.sheet.now c.args.at cut)

pub returns-in_default-read : goal.returns-in_default-read
returns-in_default-read c =
    let cut : length c.args.sheet.now < c.args.at + 2 = omega (arith, (cut_later (got (sym c.in-Some.ensures)) (missed (sym c.in_default-read.ensures))).ends) in
    no_head (cut_no_lane c.args.sheet.now c.args.at cut)

pub returns-then-kind-lt2 : goal.returns-then-kind-lt2
returns-then-kind-lt2 c = no_head (other_no_lane c.args.sheet.now c.args.at _ _ _ (and_then (got (sym c.in-Some.ensures)) (got (sym c.in-Some-read.ensures))) (below_lane _ c.if-kind-lt2.true))

pub returns-then-kind-gt10 : goal.returns-then-kind-gt10
returns-then-kind-gt10 c = no_head (other_no_lane c.args.sheet.now c.args.at _ _ _ (and_then (got (sym c.in-Some.ensures)) (got (sym c.in-Some-read.ensures))) (above_lane _ c.if-kind-gt10.true))

pub has_rest-requires : goal.has_rest-requires
has_rest-requires c =
    let g = and_then (got (sym c.in-Some.ensures)) (got (sym c.in-Some-read.ensures)) in
    (omega (arith, g.past, g.room), is_lane _ c.if-kind-lt2.false c.if-kind-gt10.false)

pub returns-then-not-has_rest : goal.returns-then-not-has_rest
returns-then-not-has_rest c =
    let g = and_then (got (sym c.in-Some.ensures)) (got (sym c.in-Some-read.ensures)) in
    no_head (short_no_lane c.args.sheet.now c.args.at _ _ _ g (is_lane _ c.if-kind-lt2.false c.if-kind-gt10.false) (leb-false _ _ (sym c.if-not-has_rest.ensures)))

pub returns : goal.returns
returns c =
    let g = and_then (got (sym c.in-Some.ensures)) (got (sym c.in-Some-read.ensures)) in
    a_head (record { fields = sym (got_said g); kind = is_lane _ c.if-kind-lt2.false c.if-kind-gt10.false; room = leb-true _ _ (sym c.if-not-has_rest.ensures) })
