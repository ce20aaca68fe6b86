-- The linked functions' answers as numbers, by `read_at` and a run's text. Not in document 01: the contract of embed::gudlemi_run and the functions beside it.
use Rattle.std.specs.Prelude.{Some, None, Result, Ok, Err, ℕ, ◌-◌, true, cond, ◌≡◌, List, ltb, length}
use Rattle.steps.specs.State.{State}
use Rattle.run.specs.Runs.{left_by_run, printed_by, report_by, text_fits, text_in}
use Rattle.report.specs.Rows.{empty_report}
use Rattle.report.specs.declared.Report.{Report}
use Rattle.event.specs.ReadWrite.{Reading, read_at}
use Rattle.event.specs.Refusal.{number_of}
use Rattle.answer_text.specs.declared.TooShort.{TooShort}
use Rattle.run_text.specs.RunText.{most_text}
use Rattle.embed.specs.declared.Linked.{Linked}

-- the greatest number of 64 bits, which is no length
abbrev pub no_length : ℕ
no_length = 18446744073709551615

abbrev pub length_printed : Result ℕ TooShort → ℕ
length_printed (Ok n) = n
length_printed (Err e) = no_length

-- a length and a report, as one
abbrev pub linked_of : ℕ → Report → Linked
linked_of length report = record { length = length; report = report }

-- a run of a sheet from state x: the length that is answered, the book, the text, that it lies within its buffer, and the report
pub record LinkedMeets (x : State) (report : Report) (sheet text : List ℕ) (r : Linked) (book_left text-left : List ℕ) : Type 0 where
  pub answer : r.length ≡ length_printed (printed_by x report sheet text)
  pub book_after : book_left ≡ (left_by_run x report sheet text).book
  pub text_after : text-left ≡ text_in x report sheet text
  pub report_after : r.report ≡ report_by x report sheet text
  pub fits : text_fits (printed_by x report sheet text) (length text) ≡ true

-- the same with a report of no waiting, of which nothing is handed back
pub record LinkedRun (x : State) (sheet text : List ℕ) (r : ℕ) (book_left text-left : List ℕ) : Type 0 where
  pub answer : r ≡ length_printed (printed_by x empty_report sheet text)
  pub book_after : book_left ≡ (left_by_run x empty_report sheet text).book
  pub text_after : text-left ≡ text_in x empty_report sheet text
  pub fits : text_fits (printed_by x empty_report sheet text) (length text) ≡ true

abbrev pub text_bound : ℕ → ℕ
text_bound n = cond (ltb 329406144173384848 n) no_length (most_text n)

-- by what is read at an index
abbrev pub length_read : ℕ → Reading → ℕ
length_read at (Ok (Some (e, next))) = next.at - at
length_read at (Ok None) = 0
length_read at (Err k) = 0

abbrev pub event_length : List ℕ → ℕ → ℕ
event_length sheet at = length_read at (read_at sheet at)

abbrev pub refusal_read : Reading → ℕ
refusal_read (Ok found) = 0
refusal_read (Err k) = number_of k

abbrev pub event_refusal : List ℕ → ℕ → ℕ
event_refusal sheet at = refusal_read (read_at sheet at)
