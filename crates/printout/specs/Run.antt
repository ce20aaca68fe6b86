-- The run of a sheet: its events one after the other, on one line and one lent book.
use Rattle.std.specs.Prelude.{Some, None, Ok, Err, ℕ, zero, suc, Bool, cond, not, ◌&&◌, List, [], ◌∷◌, length, leb}
use Rattle.line.specs.Sound.{sound}
use Rattle.event.specs.ReadWrite.{Reading, read_at}
use Rattle.event.specs.Refusal.{number_of}
use Rattle.steps.specs.Answer.{said_by}
use Rattle.steps.specs.State.{State}
use Rattle.steps.specs.Step.{call_event}
use Rattle.steps.specs.declared.Answer.{Answer}

-- the answers of a run, and the line and the book that it leaves
pub record Ran : Type 0 where
  pub answers : List Answer
  pub after : State

abbrev pub done : State → Ran
done x = record { answers = []; after = x }

abbrev pub answered : Answer → Ran → Ran
answered a r = record { answers = a ∷ r.answers; after = r.after }

-- "Numbers 1, 2 and 3 end a run; the other refusals don't"
abbrev pub ends_run : Answer → Bool
ends_run a = not (said_by a).accepted && leb (said_by a).number 3

-- what is read at the cursor, and then the rest of the run, which goes on with a state at the next cursor
abbrev pub on_reading : State → Reading → (State → ℕ → Ran) → Ran
on_reading x (Ok (Some (e, next))) rest =
    let r = call_event x e in
    let later = rest r.after next.at in
    answered r.answer (cond (ends_run r.answer) (done r.after) later)
on_reading x (Ok None) rest = done x
on_reading x (Err k) rest = answered (Answer.Refused (number_of k)) (done x)

-- the events from a cursor on; each is at least one byte long, so `most` events at most are left
unfoldable pub run_on : ℕ → State → List ℕ → ℕ → Ran
run_on zero x sheet at = done x
run_on (suc most) x sheet at = on_reading x (read_at sheet at) (λ (y : State) (next : ℕ). run_on most y sheet next)

-- "A run looks for 1 before its first event, on an empty sheet too"
unfoldable pub run : State → List ℕ → Ran
run x sheet = cond (sound x.line (length x.book)) (run_on (length sheet) x sheet 0) (answered (Answer.Refused 1) (done x))
