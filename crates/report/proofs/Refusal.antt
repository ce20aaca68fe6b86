-- 17 and 1: when a run with a report is the run without one, and when the report stays as lent.
use Prim.Native.Nat.{ℕ, zero, suc, ◌≤◌}
use mathlib.Core.Path.{◌≡◌, refl}
use mathlib.Core.Bool.{true, false}
use mathlib.Core.List.{List}
use lib.ListN.{length, replicate}
use borrow.Author.Tests.{le-ltb}
use Rattle.limits.specs.Limits.{most_lanes, most_sheet}
use Rattle.lists.specs.Lists.{some_pass}
use Rattle.lists.proofs.Tests.{and_left, and_right, by_test}
use Rattle.steps.specs.State.{State}
use Rattle.steps.specs.declared.Answer.{Answer}
use Rattle.printout.specs.Run.{answered, done, run}
use Rattle.report.specs.declared.Report.{Report}
use Rattle.report.specs.Rows.{empty_report, empty_row}
use Rattle.report.specs.Lent.{cannot_count, gets17, is_full, is_full_row, is_sound, report_after, run_lent}

module _ (x : State) (report : Report) (sheet : List ℕ) where
  -- ---- the run
  pub without_17_as_without_report : gets17 x report sheet ≡ false → run_lent x report sheet ≡ run x sheet
  without_17_as_without_report f = rw f

  pub with_17_nothing_runs : gets17 x report sheet ≡ true → run_lent x report sheet ≡ answered (Answer.Refused 17) (done x)
  with_17_nothing_runs t = rw t

  -- 17 comes after 1
  pub unsound_gets_1 : is_sound x ≡ false → run_lent x report sheet ≡ answered (Answer.Refused 1) (done x)
  unfolding run
  unsound_gets_1 f = rw f

  -- ---- the report
  pub with_17_report_as_lent : gets17 x report sheet ≡ true → report_after x report sheet ≡ report
  with_17_report_as_lent t = rw (and_left (is_sound x) (cannot_count report sheet) t, and_right (is_sound x) (cannot_count report sheet) t)

  pub unsound_report_as_lent : is_sound x ≡ false → report_after x report sheet ≡ report
  unsound_report_as_lent f = rw f

-- ---- a report of no waiting and a sheet that is not too long
none_full : (n : ℕ) → some_pass is_full_row (replicate n empty_row) ≡ false
none_full zero = refl
none_full (suc n) = none_full n

pub empty_report_never_17 : (x : State) (sheet : List ℕ) → length sheet ≤ most_sheet → gets17 x empty_report sheet ≡ false
empty_report_never_17 x sheet h =
    let e : is_full empty_report ≡ false = none_full most_lanes in
    rw (e, le-ltb most_sheet (length sheet) h) (by_test (is_sound x) (λ t. rw t) (λ t. rw t))
