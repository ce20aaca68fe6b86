-- The lines of the numbers so far are stored.
use Rattle.std.proofs.Common.{ℕ, get_or}
use Rattle.event_text.specs.Reasons.{last_reason}
use Rattle.trace_text.specs.Trace.{refused_line}
use Rattle.trace_text.proofs.Texts.{SoFar}
use Rattle.trace_text.proofs.summary.put_all_refused.Given as goal

abbrev pub invariant-loop-refusal : goal.invariant-loop-refusal
invariant-loop-refusal l = SoFar (λ (k : ℕ). refused_line k (get_or l.counts k 0)) 1 last_reason 96 l.initial.out l.at l.out l.end l.refusal
