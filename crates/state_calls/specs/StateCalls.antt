-- One call over the state bytes of a line and its book: the step of document 01 on the line that the bytes are. Chains of such calls: state_laws.
use Rattle.std.specs.Prelude.{ℕ, ◌≡◌, cond, List, ltb, length}
use Rattle.std.proofs.lemmas.List.Edits.{sets}
use Rattle.line.specs.Line.{unopened}
use Rattle.steps.specs.Answer.{said_by}
use Rattle.steps.specs.Meets.{state_of}
use Rattle.steps.specs.State.{Result}
use Rattle.steps.specs.Step.{call_bytes, refuse}
use Rattle.steps.specs.declared.Answer.{Answer}
use Rattle.state_bytes.specs.StateBytes.{is_state, line_in, state_bytes, state_length}
use Rattle.answer_bytes.specs.AnswerBytes.{answer_bytes, answer_length}

-- what a call over lent bytes leaves: its status, and each buffer
pub record Called : Type 0 where
  pub status : ℕ
  pub state : List ℕ
  pub book : List ℕ
  pub answer : List ℕ

-- the status where a buffer is too short, which is no number of document 01's
abbrev pub state_too_short : ℕ
state_too_short = 254

abbrev pub answer_too_short : ℕ
answer_too_short = 255

-- 0 where the call is accepted, else the number of the refusal
abbrev pub status_of : Answer → ℕ
status_of a = cond (said_by a).accepted 0 (said_by a).number

-- an accepted call leaves the line after it in the state bytes; a refused one leaves them as they were
abbrev pub state_after : List ℕ → Result → List ℕ
state_after state r = cond (said_by r.answer).accepted (sets state 0 (state_bytes r.after.line)) state

abbrev pub called_by : List ℕ → List ℕ → Result → Called
called_by state answer r =
    record { status = status_of r.answer; state = state_after state r; book = r.after.book; answer = sets answer 0 (answer_bytes r.answer) }

-- "1. The line handed in is not sound", as bytes that are no line are not
abbrev pub step_in : List ℕ → List ℕ → ℕ → List ℕ → Result
step_in state book kind body = cond (is_state state) (call_bytes (state_of (line_in state) book) kind body) (refuse 1 (state_of (line_in state) book))

abbrev pub untouched : ℕ → List ℕ → List ℕ → List ℕ → Called
untouched status state book answer = record { status = status; state = state; book = book; answer = answer }

-- the call: a kind and body bytes, over state bytes, a book and a buffer for the answer
unfoldable pub call_state : List ℕ → List ℕ → ℕ → List ℕ → List ℕ → Called
call_state state book kind body answer =
    cond (ltb (length state) state_length) (untouched state_too_short state book answer)
    (cond (ltb (length answer) answer_length) (untouched answer_too_short state book answer)
    (called_by state answer (step_in state book kind body)))

-- what a function's contract says of it: the status, and every byte of the three buffers
pub record CallMeets (called : Called) (status : ℕ) (state book answer : List ℕ) : Type 0 where
  pub status_is : status ≡ called.status
  pub state_is : state ≡ called.state
  pub book_is : book ≡ called.book
  pub answer_is : answer ≡ called.answer

-- ---- the state of a line that is not yet open
abbrev pub unopened_status : List ℕ → ℕ
unopened_status state = cond (ltb (length state) state_length) state_too_short 0

abbrev pub unopened_to : List ℕ → List ℕ
unopened_to state = cond (ltb (length state) state_length) state (sets state 0 (state_bytes unopened))
