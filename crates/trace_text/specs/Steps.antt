-- The steps in which a trace is printed, an event each: what one stores, and where it leaves the run. That the steps together print the trace: trace_text/Runs: steps_print.
use Rattle.std.specs.Prelude.{ℕ, zero, suc, ◌+◌, ◌*◌, ◌≤◌, ◌<◌, Bool, true, false, cond, not, List, [], ◌++◌, ◌≡◌, leb, get_or, length, replicate, set, Some, None, Ok, Err}
use Rattle.limits.specs.Limits.{most_lanes}
use Rattle.lists.specs.Lists.{all_pass}
use Rattle.line.specs.Line.{unopened}
use Rattle.line.specs.declared.Line.{Line}
use Rattle.event.specs.ReadWrite.{Reading, event_read, read_at}
use Rattle.event.specs.Refusal.{number_of}
use Rattle.steps.specs.Meets.{state_of}
use Rattle.steps.specs.Step.{call_event}
use Rattle.steps.specs.declared.Answer.{Answer}
use Rattle.printout.specs.Run.{ends_run}
use Rattle.number_text.specs.Stored.{Stored}
use Rattle.event_text.specs.Reasons.{last_reason}
use Rattle.trace_text.specs.TraceLine.{most_trace_line, read_words, trace_line}
use Rattle.trace_text.specs.Trace.{end_text, refusal_of}
use Rattle.trace_text.specs.declared.Traced.{Traced}
use Rattle.trace_text.specs.declared.Tracing.{Tracing}

-- ---- where a trace stands
-- before the first event
abbrev pub start_of : Tracing
start_of = record { line = unopened; at = 0; number = 0; counts = replicate (last_reason + 1) 0 }

-- one answer more
abbrev pub counted : Answer → List ℕ → List ℕ
counted a counts = set counts (refusal_of a) (get_or counts (refusal_of a) 0 + 1)

abbrev pub onwards : Tracing → Answer → Line → ℕ → Tracing
onwards from a l next = record { line = l; at = next; number = from.number + 1; counts = counted a from.counts }

abbrev pub count_in : Tracing → ℕ → ℕ
count_in t k = get_or t.counts k 0

-- ---- a step: its text, where the trace then stands, the book, and whether the run goes on
pub record Stepped : Type 0 where
  pub text : List ℕ
  pub next : Tracing
  pub book : List ℕ
  pub more : Bool

abbrev pub stepped_by : Tracing → List ℕ → Reading → Stepped
stepped_by from book (Ok (Some (e, next))) =
    let r = call_event (state_of from.line book) e in
    record {
      text = trace_line from.number (read_words from.at (event_read e next)) r.answer r.after.line;
      next = onwards from r.answer r.after.line next.at;
      book = r.after.book;
      more = not (ends_run r.answer);
    }
stepped_by from book (Ok None) = record { text = []; next = from; book = book; more = false }
stepped_by from book (Err k) =
    record {
      text = trace_line from.number (read_words from.at (Err k)) (Answer.Refused (number_of k)) from.line;
      next = onwards from (Answer.Refused (number_of k)) from.line from.at;
      book = book;
      more = false;
    }

abbrev pub stepped_in : Tracing → List ℕ → List ℕ → Stepped
stepped_in from book sheet = stepped_by from book (read_at sheet from.at)

-- the texts of the steps one after the other, while the run goes on, and that of the end
unfoldable pub steps_text : ℕ → Tracing → List ℕ → List ℕ → List ℕ
steps_text zero from book sheet = end_text from.line (count_in from)
steps_text (suc most) from book sheet =
    let s = stepped_in from book sheet in
    s.text ++ cond s.more (steps_text most s.next s.book sheet) (end_text s.next.line (count_in s.next))

-- ---- contracts
-- an event has a byte at least, so that the counts stay within the sheet's length
pub record Within (from : Tracing) (sheet : List ℕ) : Type 0 where
  pub numbered : from.number ≤ from.at
  pub inside : from.at ≤ length sheet
  pub counts_within : all_pass (λ (n : ℕ). leb n from.number) from.counts ≡ true

-- the end of a trace is not longer than this: a line for each lane and each reason, and 256 bytes for the two others
abbrev pub most_end : ℕ
most_end = most_lanes * 40 + last_reason * 96 + 256

pub record StepReady (from : Tracing) (sheet out : List ℕ) : Type 0 where
  pub within : Within from sheet
  pub room : most_trace_line ≤ length out

pub record StepMeets (s : Stepped) (out : List ℕ) (r : Traced) (book_left out-left : List ℕ) : Type 0 where
  pub text : Stored s.text out 0 out-left r.length
  pub next : r.next ≡ s.next
  pub book : book_left ≡ s.book
  pub more : r.more ≡ s.more
  pub short : r.length ≤ most_trace_line

-- where the run goes on, the next step is within the sheet, and further on
pub record GoesOn (from : Tracing) (sheet : List ℕ) (r : Traced) : Type 0 where
  pub ready : r.more ≡ true → Within r.next sheet
  pub further : r.more ≡ true → from.at < r.next.at
