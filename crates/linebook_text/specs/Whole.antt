-- What `linebook` prints of a sheet, in a lent buffer. Tied to `linebook` of `printout`, where there is room, by linebook_text/Linebook: prints_linebook.
use Rattle.std.specs.Prelude.{ℕ, Result, Ok, ◌≤◌, Bool, true, cond, ◌≡◌, List, ltb, length}
use Rattle.std.proofs.lemmas.List.Edits.{sets}
use Rattle.steps.specs.State.{fresh}
use Rattle.limits.specs.Limits.{most_capacity, most_sheet}
use Rattle.printout.specs.Print.{linebook}
use Rattle.run_text.specs.RunText.{most_text}
use Rattle.printout.specs.Text.{ascii}
use Rattle.answer_text.specs.Printing.{too_short}
use Rattle.answer_text.specs.declared.TooShort.{TooShort}
use Rattle.report.specs.Rows.{empty_report}
use Rattle.run.specs.Runs.{left_by_run, printed_by, text_fits, text_in}

abbrev pub is_too_long : List ℕ → Bool
is_too_long sheet = ltb most_sheet (length sheet)

-- "else its one line is `sheet too long`", of 15 bytes with its end
abbrev pub too_long_printed : List ℕ → Result ℕ TooShort
too_long_printed out = cond (ltb (length out) 15) too_short (Ok 15)

abbrev pub too_long_text : List ℕ → List ℕ
too_long_text out = cond (ltb (length out) 15) out (sets out 0 (ascii "sheet too long\n"))

abbrev pub sheet_printed : List ℕ → List ℕ → List ℕ → Result ℕ TooShort
sheet_printed book sheet out = cond (is_too_long sheet) (too_long_printed out) (printed_by (fresh book) empty_report sheet out)

abbrev pub text_of : List ℕ → List ℕ → List ℕ → List ℕ
text_of book sheet out = cond (is_too_long sheet) (too_long_text out) (text_in (fresh book) empty_report sheet out)

abbrev pub book_of : List ℕ → List ℕ → List ℕ → List ℕ
book_of book sheet out = cond (is_too_long sheet) book (left_by_run (fresh book) empty_report sheet out).book

-- the line of a sheet that is too long: what is answered, and the buffer
pub record TooLongMeets (out : List ℕ) (r : Result ℕ TooShort) (out-left : List ℕ) : Type 0 where
  pub answer : r ≡ too_long_printed out
  pub text : out-left ≡ too_long_text out

-- the definition's text at the buffer's start, and its length answered
pub record Prints (sheet out : List ℕ) (r : Result ℕ TooShort) (out-left : List ℕ) : Type 0 where
  pub answer : r ≡ Ok (length (linebook sheet))
  pub text : out-left ≡ sets out 0 (linebook sheet)

-- what is printed of a sheet: what is answered, the book, the buffer, and that the text lies within it
pub record SheetMeets (book sheet out : List ℕ) (r : Result ℕ TooShort) (book_left out-left : List ℕ) : Type 0 where
  pub answer : r ≡ sheet_printed book sheet out
  pub book_after : book_left ≡ book_of book sheet out
  pub text : out-left ≡ text_of book sheet out
  pub fits : text_fits r (length out) ≡ true
  -- with a book of the greatest capacity and room for the longest text it is what `linebook` prints, whatever the book held
  pub whole : length book ≡ most_capacity → most_text most_sheet ≤ length out → Prints sheet out r out-left
