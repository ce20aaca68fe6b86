-- A lane more is started, and all of them once the first n are.
use Rattle.std.proofs.Common.{◌≡◌, ◌<◌, refl, sym, ◌∙◌, length, length-set, arith, rules}
use Rattle.limits.specs.Limits.{most_lanes}
use Rattle.line.specs.Line.{idle_lane}
use Rattle.ordered_calls.proofs.Started.{all_done, past_kept, turn}
use Rattle.ordered_calls.proofs.start_all.Goals as goal

pub loop-r-init : goal.loop-r-init
loop-r-init c =
    let long : length c.args.lanes ≡ most_lanes = search rules in
    record { as_far = refl; long = long; place = omega arith; past = c.requires.1.idle }

pub loop-r-preserved : goal.loop-r-preserved
loop-r-preserved c =
    let lp = c.loop-r in
    let few = c.requires.1.few in
    let below : lp.r < c.args.n = omega (arith, c.loop-r-test.true, c.from-r-end.ensures) in
    let room : lp.r < length lp.started = omega (arith, few, lp.invariant.long) in
    record {
      as_far = rw (c.start_at.ensures, c.from-at.ensures, c.count_in.ensures) (turn lp.started lp.r lp.at idle_lane room ∙ lp.invariant.as_far);
      long = simp length-set lp.invariant.long;
      place = omega arith;
      past = past_kept lp.started c.args.n lp.r (record { phase = c.start_at.result }) below lp.invariant.past;
    }

pub returns : goal.returns
returns c =
    let lp = c.loop-r in
    let end : lp.r ≡ c.args.n = omega (arith, c.loop-r-test.false, lp.auto.r-end, c.from-r-end.ensures) in
    sym (all_done lp.started lp.r lp.at (rw end lp.invariant.past)) ∙ lp.invariant.as_far
