-- A line of a trace: an event and its answer in words, the lanes after it as a row of letters, the pointer and the size. Not in document 01: the contract of trace_text::step.
use Rattle.std.specs.Prelude.{ℕ, ◌+◌, ◌-◌, cond, List, [], ◌∷◌, ◌++◌, map, get_or, length, replicate, take, Some, None, Ok, Err}
use Rattle.limits.specs.Limits.{most_lanes}
use Rattle.view.specs.declared.Place.{Place}
use Rattle.line.specs.Line.{on, phase_number}
use Rattle.line.specs.declared.Line.{Line}
use Rattle.line.specs.declared.Phase.{Phase}
use Rattle.event.specs.ReadWrite.{Reading}
use Rattle.steps.specs.Answer.{said_by}
use Rattle.steps.specs.declared.Answer.{Answer}
use Rattle.printout.specs.Text.{ascii}
use Rattle.printout.specs.Print.{answer_words, decimal}
use Rattle.event_text.specs.Reasons.{reason_text}
use Rattle.event_text.specs.Show.{event_words}

-- ---- columns
-- words with single blanks between them, without the line end that `words` has
unfoldable pub joined : List (List ℕ) → List ℕ
joined [] = []
joined (w ∷ []) = w
joined (w ∷ v ∷ ws) = w ++ ascii " " ++ joined (v ∷ ws)

-- a text with blanks up to a width, and two more; a longer text is not cut
abbrev pub column : ℕ → List ℕ → List ℕ
column width text = text ++ replicate (width - length text + 2) 32

-- ---- the event
-- what stands at byte `at` of the sheet: an event's kind and fields, or bytes that are none
abbrev pub read_words : ℕ → Reading → List (List ℕ)
read_words at (Ok (Some (e, next))) = event_words e
read_words at (Ok None) = []
read_words at (Err k) = ascii "at byte" ∷ decimal at ∷ []

-- ---- the answer
-- a refusal with its reason
abbrev pub refusal_words : ℕ → List (List ℕ)
refusal_words number = ascii "refused" ∷ (decimal number ++ ascii ":") ∷ reason_text number ∷ []

-- the answer as `linebook` prints it, and of a refusal its reason
abbrev pub told_words : Answer → List (List ℕ)
told_words a = cond (said_by a).accepted (answer_words a) (refusal_words (said_by a).number)

-- ---- the lanes
-- a letter for each phase: idle, waiting, woken, holding, writing, reading, gathered
abbrev pub letter_of : Phase → ℕ
letter_of x = get_or (ascii ".w!HWRG") (phase_number x) 0

abbrev pub row_of : Line → List ℕ
row_of l = map (on letter_of) (take l.lanes l.lane)

-- ---- the line
abbrev pub tail_of : ℕ → Place → List ℕ
tail_of size pointer = ascii "  pointer " ++ (column 5 (decimal pointer.0) ++ (ascii "size " ++ (decimal size ++ ascii "\n")))

-- the answer and what it left
abbrev pub result_text : Answer → Line → List ℕ
result_text a l = column 36 (joined (told_words a)) ++ (row_of l ++ tail_of l.size l.pointer)

-- the event's number, what was read, the answer and what it left
abbrev pub trace_line : ℕ → List (List ℕ) → Answer → Line → List ℕ
trace_line number read a l = column 4 (decimal number) ++ (column 39 (joined read) ++ result_text a l)

-- no line is longer than this: a letter for each lane, and 736 bytes for all else
abbrev pub most_trace_line : ℕ
most_trace_line = most_lanes + 736
