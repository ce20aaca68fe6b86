-- Where there is room, what is printed is `linebook` of the sheet, whatever the lent book held.
use Prim.Native.Nat.{ℕ, ◌≤◌}
use mathlib.Core.Path.{◌≡◌, refl, sym, ap, subst, ◌∙◌}
use mathlib.Core.Bool.{Bool, true, false, cond}
use mathlib.Core.List.{List}
use native.Mathlib.Omega.{arith}
use lib.Dec.{leb, ltb}
use lib.ListN.{length}
use lib.Seq.{sets}
use borrow.Author.Tests.{le-leb, le-ltb, lt-leb, ltb-false, ltb-true}
use Rattle.lists.proofs.Tests.{by_test}
use Rattle.limits.specs.Limits.{most_capacity, most_sheet}
use Rattle.printout.specs.Print.{linebook}
use Rattle.printout.proofs.OldBytes.{linebook_any}
use Rattle.answer_text.specs.declared.TooShort.{TooShort}
use Rattle.std.specs.Prelude.{Result, Ok}
use Rattle.line.specs.Line.{unopened}
use Rattle.line.specs.declared.Line.{Line}
use Rattle.steps.specs.Meets.{state_of}
use Rattle.steps.specs.State.{fresh}
use Rattle.report.proofs.Refusal.{empty_report_never_17, without_17_as_without_report}
use Rattle.report.specs.Rows.{empty_report}
use Rattle.report.specs.declared.Report.{Report}
use Rattle.run_text.specs.RunText.{most_text}
use Rattle.run.specs.Runs.{RunMeets, left_by_run, printed_by, text_fits, text_in}
use Rattle.run.specs.declared.Reported.{Reported}
use Rattle.linebook_text.proofs.Fresh.{from_empty}
use Rattle.linebook_text.specs.Whole.{Prints, SheetMeets, TooLongMeets, book_of, is_too_long, sheet_printed, text_of, too_long_printed, too_long_text}

-- ---- a sheet that is not too long
module _ (book sheet out : List ℕ) (short : is_too_long sheet ≡ false) where
  pub not_long_printed : sheet_printed book sheet out ≡ printed_by (fresh book) empty_report sheet out
  not_long_printed = ap (λ (b : Bool). cond b (too_long_printed out) (printed_by (fresh book) empty_report sheet out)) short

  pub not_long_text : text_of book sheet out ≡ text_in (fresh book) empty_report sheet out
  not_long_text = ap (λ (b : Bool). cond b (too_long_text out) (text_in (fresh book) empty_report sheet out)) short

  pub not_long_book : book_of book sheet out ≡ (left_by_run (fresh book) empty_report sheet out).book
  not_long_book = ap (λ (b : Bool). cond b book (left_by_run (fresh book) empty_report sheet out).book) short

-- a book of the greatest capacity, and a buffer for the longest sheet
pub prints_linebook : (book sheet out : List ℕ) → length book ≡ most_capacity → most_text most_sheet ≤ length out → Prints sheet out (sheet_printed book sheet out) (text_of book sheet out)
unfolding linebook
prints_linebook book sheet out b h =
    by_test (ltb most_sheet (length sheet))
    (λ long. let past = lt-leb (length sheet) most_sheet (ltb-true most_sheet (length sheet) long) in
    let some : ltb (length out) 15 ≡ false = le-ltb (length out) 15 (omega arith) in
    record { answer = rw (long, past, some); text = rw (long, past, some) })
    (λ short. let least = ltb-false most_sheet (length sheet) short in
    let same = linebook_any book b sheet least in
    let plain = without_17_as_without_report (fresh book) empty_report sheet (empty_report_never_17 (fresh book) sheet least) in
    let room : leb (most_text (length sheet)) (length out) ≡ true = le-leb (most_text (length sheet)) (length out) (omega arith) in
    record { answer = rw (plain, short, room) (ap Ok (ap length same)); text = rw (plain, short, room) (ap (sets out 0) same) })

short_fits : (out : List ℕ) → text_fits (too_long_printed out) (length out) ≡ true
short_fits out =
    by_test (ltb (length out) 15) (λ e. rw e) (λ e. rw e (le-leb 15 (length out) (ltb-false (length out) 15 e)))

-- ---- what is printed of a sheet meets its contract
pub met_long : (book sheet out : List ℕ) (r : Result ℕ TooShort) (out-left : List ℕ) → is_too_long sheet ≡ true → TooLongMeets out r out-left → SheetMeets book sheet out r book out-left
met_long book sheet out r out-left long m =
    record {
      answer = rw long m.answer;
      book_after = rw long refl;
      text = rw long m.text;
      fits = subst (λ (q : Result ℕ TooShort). text_fits q (length out) ≡ true) (sym m.answer) (short_fits out);
      whole = λ b h. rw (m.answer, m.text) (rw long at (prints_linebook book sheet out b h));
    }

pub met_short : (book sheet out : List ℕ) (o : Reported) (book_left out-left : List ℕ) (l : Line) (report : Report) → is_too_long sheet ≡ false → l ≡ unopened → report ≡ empty_report
    → RunMeets (state_of l book) report sheet out o book_left out-left → SheetMeets book sheet out o.printed book_left out-left
met_short book sheet out o book_left out-left l report short e none met =
    let m = from_empty _ _ _ _ _ _ _ _ e none met in
    let answer = m.answer ∙ sym (not_long_printed book sheet out short) in
    let text = m.text ∙ sym (not_long_text book sheet out short) in
    record {
      answer = answer;
      book_after = m.book ∙ sym (not_long_book book sheet out short);
      text = text;
      fits = m.fits;
      whole = λ b h. rw (answer, text) (prints_linebook book sheet out b h);
    }
