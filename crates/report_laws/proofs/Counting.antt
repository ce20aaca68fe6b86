-- Each answer that tells a lane to wait is counted once, as a wait that ended or as one that did not; a wait that no call of the run tells is left out.
use Prim.Native.Nat.{ℕ, ◌+◌, ◌<◌}
use mathlib.Core.Path.{◌≡◌, refl, ◌∙◌}
use mathlib.Core.Bool.{Bool, true, false, cond}
use mathlib.Core.List.{List, [], ◌∷◌, ◌++◌}
use native.Mathlib.Omega.{arith}
use lib.ListN.{length}
use Rattle.lists.specs.Lists.{bit, count_pass, some_pass}
use Rattle.lists.proofs.Tests.{by_test, neither_left, neither_right}
use Rattle.steps.specs.State.{State}
use Rattle.trace.specs.Trace.{Entry, tells_to_wait, wakes}
use Rattle.trace.specs.SheetCalls.{sheet_entries}
use Rattle.report.specs.declared.Report.{Report}
use Rattle.report.specs.declared.Row.{Row}
use Rattle.report.specs.Rows.{empty_row, joined}
use Rattle.report.specs.Growth.{tells_any, wait_row, waits_told}
use Rattle.report.specs.Lent.{gets17, is_sound, report_after}
use Rattle.report.proofs.Rows.{empty_joined, joined_empty}
use Rattle.report.proofs.Lanes.{lane_row_grows, row_for}
use Rattle.report.proofs.Grown.{run_grows}

-- the waits of a row, ended or not
abbrev pub waits_in : Row → ℕ
waits_in r = r.times + r.unended

-- ---- over any list of calls and any test
one_wait : (i : ℕ) (later : List Entry) → waits_in (wait_row i later) ≡ 1
one_wait i later = by_test (some_pass (wakes i) later) (λ t. rw t) (λ f. rw f)

told_once : (b : Bool) (i : ℕ) (later : List Entry) → waits_in (cond b (wait_row i later) empty_row) ≡ bit b
told_once true i later = one_wait i later
told_once false i later = refl

pub each_told_counted_once : (tells : Entry → Bool) (es : List Entry) → waits_in (waits_told tells es) ≡ count_pass tells es
unfolding waits_told
each_told_counted_once tells [] = refl
each_told_counted_once tells (e ∷ later) =
    let ih = each_told_counted_once tells later in
    let h = told_once (tells e) e.lane later in
    let s : waits_in (joined (cond (tells e) (wait_row e.lane later) empty_row) (waits_told tells later)) ≡ waits_in (cond (tells e) (wait_row e.lane later) empty_row) + waits_in (waits_told tells later) = omega arith in
    s ∙ omega arith

pub none_told_none_counted : (tells : Entry → Bool) (es : List Entry) → some_pass tells es ≡ false → waits_told tells es ≡ empty_row
unfolding waits_told
none_told_none_counted tells [] f = refl
none_told_none_counted tells (e ∷ later) f =
    rw (neither_left (tells e) (some_pass tells later) f, none_told_none_counted tells later (neither_right (tells e) (some_pass tells later) f))

-- what comes before the first wait that is told adds nothing, whatever it wakes
pub untold_before_adds_nothing : (tells : Entry → Bool) (before later : List Entry) → some_pass tells before ≡ false → waits_told tells (before ++ later) ≡ waits_told tells later
unfolding waits_told
untold_before_adds_nothing tells [] later f = refl
untold_before_adds_nothing tells (e ∷ before) later f =
    rw (neither_left (tells e) (some_pass tells before) f, untold_before_adds_nothing tells before later (neither_right (tells e) (some_pass tells before) f)) (empty_joined (waits_told tells later))

-- ---- of the run of a sheet
module _ (x : State) (report : Report) (sheet : List ℕ) (s : is_sound x ≡ true) (f : gets17 x report sheet ≡ false) where
  pub lane_counts_its_waits : (i : ℕ) → i < length report.lane
      → waits_in (row_for (report_after x report sheet) i) ≡ waits_in (row_for report i) + count_pass (tells_to_wait i) (sheet_entries x sheet)
  lane_counts_its_waits i h =
      rw (run_grows x report sheet s f, lane_row_grows report (sheet_entries x sheet) i h) (omega (arith, each_told_counted_once (tells_to_wait i) (sheet_entries x sheet)))

  pub all_count_their_waits : waits_in (report_after x report sheet).all ≡ waits_in report.all + count_pass tells_any (sheet_entries x sheet)
  all_count_their_waits = rw (run_grows x report sheet s f) (omega (arith, each_told_counted_once tells_any (sheet_entries x sheet)))

  -- a lane that the run never tells to wait keeps its row, also where it waited before and is woken in the run
  pub told_before_left_out : (i : ℕ) → i < length report.lane → some_pass (tells_to_wait i) (sheet_entries x sheet) ≡ false → row_for (report_after x report sheet) i ≡ row_for report i
  told_before_left_out i h n =
      rw (run_grows x report sheet s f, lane_row_grows report (sheet_entries x sheet) i h, none_told_none_counted (tells_to_wait i) (sheet_entries x sheet) n) (joined_empty (row_for report i))
