-- "A refusal returns its number alone and alters neither the line nor any buffer": the outcome. Tied to `refuse` of a step by refuse/First: meets_refused.
use Rattle.std.specs.Prelude.{ℕ}
use Rattle.line.specs.declared.Line.{Line}
use Rattle.steps.specs.declared.Answer.{Answer}
use Rattle.steps.specs.declared.Outcome.{Outcome}

abbrev pub refused_outcome : Line → ℕ → Outcome
refused_outcome l k = record { line = l; answer = Answer.Refused k }
