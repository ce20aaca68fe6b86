use Rattle.std.proofs.Common.{arith}
use Rattle.trace_text.proofs.Texts.{all_stored, one_more}
use Rattle.trace_text.proofs.summary.put_all_refused.Goals as goal

pub loop-refusal-preserved : goal.loop-refusal-preserved
loop-refusal-preserved c =
    let p = c.put_refused-end in
    let line = rw c.from.ensures at p.ensures.0 in
    one_more _ _ _ _ _ _ c.loop-refusal.refusal c.loop-refusal.invariant (omega (arith, c.loop-refusal-test.true)) line p.ensures.1

pub returns : goal.returns
returns c =
    let lp = c.loop-refusal in
    (all_stored _ _ _ _ _ _ lp.refusal lp.invariant (omega (arith, c.loop-refusal-test.false)), omega (arith, lp.invariant.short, lp.invariant.most))
