-- The trace of a sheet's run, whole: what the letters mean, a line an event, what is left, and how many events were accepted and refused. Tied to `run` by trace_text/Runs: trace_states, fresh_answers, fresh_after.
use Rattle.std.specs.Prelude.{ℕ, zero, suc, cond, Option, Some, None, List, [], ◌∷◌, ◌++◌, map, eqb, get_or, length, Ok, Err}
use Rattle.lists.specs.Lists.{count_pass}
use Rattle.line.specs.Line.{is_idle, phase_at, phase_number}
use Rattle.line.specs.declared.Line.{Line}
use Rattle.line.specs.declared.Phase.{Phase}
use Rattle.event.specs.ReadWrite.{Reading, event_read, read_at}
use Rattle.event.specs.Refusal.{number_of}
use Rattle.steps.specs.Answer.{said_by}
use Rattle.steps.specs.State.{State}
use Rattle.steps.specs.Step.{call_event}
use Rattle.steps.specs.declared.Answer.{Answer}
use Rattle.printout.specs.Text.{ascii}
use Rattle.printout.specs.Print.{decimal, words}
use Rattle.printout.specs.Run.{ends_run}
use Rattle.event_text.specs.Reasons.{last_reason}
use Rattle.trace_text.specs.TraceLine.{read_words, refusal_words, row_of, trace_line}

-- ---- the events of a run
-- one of them: where it stands in the sheet, what was read there, the answer, and the line and the book after it
pub record Seen : Type 0 where
  pub at : ℕ
  pub reading : Reading
  pub answer : Answer
  pub after : State

abbrev pub seen_by : State → ℕ → Reading → Answer → Seen
seen_by x at reading answer = record { at = at; reading = reading; answer = answer; after = x }

abbrev pub on_read : State → ℕ → Reading → (State → ℕ → List Seen) → List Seen
on_read x at (Ok (Some (e, next))) rest =
    let r = call_event x e in
    let later = rest r.after next.at in
    seen_by r.after at (event_read e next) r.answer ∷ cond (ends_run r.answer) [] later
on_read x at (Ok None) rest = []
on_read x at (Err k) rest = seen_by x at (Err k) (Answer.Refused (number_of k)) ∷ []

-- from a cursor on, as `run_on`
unfoldable pub seen_on : ℕ → State → List ℕ → ℕ → List Seen
seen_on zero x sheet at = []
seen_on (suc most) x sheet at = on_read x at (read_at sheet at) (λ (y : State) (next : ℕ). seen_on most y sheet next)

abbrev pub last_of : State → List Seen → State
last_of x [] = x
last_of x (s ∷ ss) = last_of s.after ss

-- ---- how many were accepted and refused
-- the number of a refusal; none of an accepted call
abbrev pub refused_by : Answer → Option ℕ
refused_by a = cond (said_by a).accepted None (Some (said_by a).number)

-- the same with 0 of an accepted call
abbrev pub refusal_of : Answer → ℕ
refusal_of a = cond (said_by a).accepted 0 (said_by a).number

abbrev pub how_many : List Answer → ℕ → ℕ
how_many answers k = count_pass (λ (a : Answer). eqb (refusal_of a) k) answers

abbrev pub accepted_line : ℕ → List ℕ
accepted_line n = words (decimal n ∷ ascii "accepted" ∷ [])

-- n calls refused with number k; where there are none, no line
abbrev pub refused_line : ℕ → ℕ → List ℕ
refused_line k n = cond (eqb n 0) [] (words (decimal n ∷ refusal_words k))

-- the texts f k, f (k + 1) and so on, `more` of them
unfoldable pub texts_from : (ℕ → List ℕ) → ℕ → ℕ → List ℕ
texts_from f k zero = []
texts_from f k (suc more) = f k ++ texts_from f (suc k) more

-- the refusals by number, with f k the count of each
abbrev pub refused_lines : (ℕ → ℕ) → List ℕ
refused_lines f = texts_from (λ (k : ℕ). refused_line k (f k)) 1 last_reason

-- ---- the end: the size and the pointer, each lane that is not idle, and the counts: f 0 accepted, f k refused with number k
abbrev pub phase_word : Phase → List ℕ
phase_word x =
    get_or
    (ascii "idle" ∷ ascii "waiting" ∷ ascii "woken" ∷ ascii "holding" ∷ ascii "writing" ∷ ascii "reading" ∷ ascii "gathered" ∷ [])
    (phase_number x) []

abbrev pub lane_line : ℕ → Phase → List ℕ
lane_line i x = cond (is_idle x) [] (words (ascii "lane" ∷ decimal i ∷ phase_word x ∷ []))

abbrev pub lane_lines : Line → List ℕ
lane_lines l = texts_from (λ (i : ℕ). lane_line i (phase_at l i)) 0 (length (row_of l))

abbrev pub end_text : Line → (ℕ → ℕ) → List ℕ
end_text l f =
    words (ascii "end size" ∷ decimal l.size ∷ ascii "pointer" ∷ decimal l.pointer.0 ∷ []) ++ (lane_lines l ++ (accepted_line (f 0) ++ refused_lines f))

-- ---- the whole
abbrev pub legend : List ℕ
legend = ascii "lanes: . idle  w waiting  ! woken  H holding  W writing  R reading  G gathered\n"

unfoldable pub trace_lines : ℕ → List Seen → List ℕ
trace_lines k [] = []
trace_lines k (s ∷ ss) = trace_line k (read_words s.at s.reading) s.answer s.after.line ++ trace_lines (suc k) ss

-- the trace of the run from a line and a book
abbrev pub trace_text : State → List ℕ → List ℕ
trace_text x sheet =
    let seen = seen_on (length sheet) x sheet 0 in
    legend ++ (trace_lines 0 seen ++ end_text (last_of x seen).line (how_many (map (λ (s : Seen). s.answer) seen)))
