use Rattle.std.proofs.Common.{arith}
use Rattle.trace_text.proofs.Texts.{all_stored, one_more}
use Rattle.trace_text.proofs.lanes.put_lanes.Goals as goal

pub put_lane-end-requires : goal.put_lane-end-requires
put_lane-end-requires c =
    let lp = c.loop-i in
    omega (arith, lp.invariant.short, lp.invariant.same_length, c.loop-i-test.true, c.row_length-count.ensures.1, c.requires)

pub loop-i-preserved : goal.loop-i-preserved
loop-i-preserved c =
    let p = c.put_lane-end in
    one_more _ _ _ _ _ _ c.loop-i.i c.loop-i.invariant (omega (arith, c.loop-i-test.true)) p.ensures.0 p.ensures.1

pub returns : goal.returns
returns c =
    let lp = c.loop-i in
    let count = c.row_length-count.ensures in
    (rw (← count.0) (all_stored _ _ _ _ _ _ lp.i lp.invariant (omega (arith, c.loop-i-test.false))), omega (arith, lp.invariant.short, lp.invariant.most, count.1))
