-- What a call over state bytes comes to, test after test, and what meets it.
use Prim.Native.Nat.{ℕ, ◌≤◌, ◌<◌}
use mathlib.Core.Path.{◌≡◌}
use mathlib.Core.Bool.{true, cond}
use mathlib.Core.List.{List}
use lib.ListN.{length}
use lib.Seq.{sets}
use borrow.Author.Tests.{le-ltb, lt-ltb}
use Rattle.line.specs.declared.Line.{Line}
use Rattle.steps.specs.Answer.{said_by}
use Rattle.steps.specs.Meets.{Meets, state_of}
use Rattle.steps.specs.Step.{call_bytes}
use Rattle.steps.specs.declared.Outcome.{Outcome}
use Rattle.state_bytes.specs.StateBytes.{is_state, line_in, state_bytes, state_length}
use Rattle.answer_bytes.specs.AnswerBytes.{answer_bytes, answer_length}
use Rattle.state_calls.specs.StateCalls.{CallMeets, answer_too_short, call_state, called_by, state_too_short, status_of, step_in, untouched}

module _ (state book : List ℕ) (kind : ℕ) (body answer : List ℕ) where
  pub short_state : length state < state_length → call_state state book kind body answer ≡ untouched state_too_short state book answer
  unfolding call_state
  short_state h = rw (lt-ltb (length state) state_length h)

  pub short_answer : state_length ≤ length state → length answer < answer_length → call_state state book kind body answer ≡ untouched answer_too_short state book answer
  unfolding call_state
  short_answer s h = rw (le-ltb (length state) state_length s, lt-ltb (length answer) answer_length h)

  pub called_step : state_length ≤ length state → answer_length ≤ length answer
      → call_state state book kind body answer ≡ called_by state answer (step_in state book kind body)
  unfolding call_state
  called_step s a = rw (le-ltb (length state) state_length s, le-ltb (length answer) answer_length a)

-- past the tests: what is left, by what each function that is called ensures
called_line : (state book : List ℕ) (kind : ℕ) (body answer : List ℕ) (line : Line) → state_length ≤ length state → answer_length ≤ length answer → is_state state ≡ true → line ≡ line_in state
    → call_state state book kind body answer ≡ called_by state answer (call_bytes (state_of line book) kind body)
called_line state book kind body answer line s a is read = rw read (rw is at (called_step state book kind body answer s a))

pub met_stored : (state book : List ℕ) (kind : ℕ) (body answer : List ℕ) (status : ℕ) (state_left book_left answer-left : List ℕ) (o : Outcome) (line : Line)
    → state_length ≤ length state → answer_length ≤ length answer → is_state state ≡ true → line ≡ line_in state
    → Meets (call_bytes (state_of line book) kind body) o book_left
    → status ≡ status_of o.answer → state_left ≡ cond (said_by o.answer).accepted (sets state 0 (state_bytes o.line)) state → answer-left ≡ sets answer 0 (answer_bytes o.answer)
    → CallMeets (call_state state book kind body answer) status state_left book_left answer-left
met_stored state book kind body answer status state_left book_left answer-left o line s a is read met k left told =
    rw (called_line state book kind body answer line s a is read) (record {
      status_is = rw met.answer at k;
      state_is = rw (met.answer, met.line) at left;
      book_is = met.book;
      answer_is = rw met.answer at told;
    })
