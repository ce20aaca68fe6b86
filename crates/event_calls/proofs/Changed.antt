-- A change that is applied meets the step that it is.
use Prim.Native.Nat.{ℕ}
use mathlib.Core.Path.{◌≡◌, refl}
use mathlib.Core.List.{List}
use Rattle.line.specs.declared.Line.{Line}
use Rattle.steps.specs.Meets.{Meets}
use Rattle.steps.specs.State.{Result}
use Rattle.steps.specs.declared.Outcome.{Outcome}
use Rattle.changes.specs.Change.{changed, outcome_of}
use Rattle.changes.specs.declared.Change.{Change}

pub meets_changed : (l : Line) (i : ℕ) (c : Change) {step : Result} {o : Outcome} {book bytes : List ℕ} → step ≡ changed l i c book → o ≡ outcome_of l i c → bytes ≡ book → Meets step o bytes
meets_changed l i c e f g = rw (e, f, g) (record { answer = refl; line = refl; book = refl })
