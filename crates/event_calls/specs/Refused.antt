-- The outcome of a call whose bytes give no event: 1 on an unsound line, else 2 or 3. Tied to `step` by event_calls/Unsound: no_kind, refused_call.
use Rattle.std.specs.Prelude.{ℕ, cond}
use Rattle.line.specs.declared.Line.{Line}
use Rattle.line.specs.Sound.{sound}
use Rattle.steps.specs.declared.Outcome.{Outcome}
use Rattle.refuse.specs.Refused.{refused_outcome}

abbrev pub refused_bytes : Line → ℕ → ℕ → Outcome
refused_bytes l buffer k = cond (sound l buffer) (refused_outcome l k) (refused_outcome l 1)
