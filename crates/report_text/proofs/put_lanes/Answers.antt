-- `put_lanes` meets its contract: the line of a lane, and that none is left.
use Rattle.std.proofs.Common.{arith, length, rules, ◌≡◌}
use Rattle.limits.specs.Limits.{most_lanes}
use Rattle.report_text.proofs.Lanes.{all_stored, one_more}
use Rattle.report_text.proofs.put_lanes.Goals as goal

pub loop-lane-preserved : goal.loop-lane-preserved
loop-lane-preserved c =
    let lanes = c.args.lanes in
    let whole : length lanes ≡ most_lanes = search rules in
    let put = c.put_lane-end.ensures in
    one_more lanes _ _ c.loop-lane.lane c.loop-lane.invariant (omega (arith, whole, c.loop-lane-test.true)) put.0 put.1

pub returns : goal.returns
returns c =
    let lanes = c.args.lanes in
    let whole : length lanes ≡ most_lanes = search rules in
    let all = all_stored lanes _ _ c.loop-lane.lane c.loop-lane.invariant (omega (arith, whole, c.loop-lane-test.false)) in
    (all, omega (arith, c.loop-lane.invariant.short, c.loop-lane.invariant.most, whole))
