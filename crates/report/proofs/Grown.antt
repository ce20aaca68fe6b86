-- The rows of a report after a run: each is the row lent with the run's waits of that lane, or of all; two runs over one report add up, in either order.
use Prim.Native.Nat.{ℕ, suc, ◌<◌}
use mathlib.Core.Path.{◌≡◌, refl, sym, ap, ◌∙◌}
use mathlib.Core.Bool.{true, false, cond}
use mathlib.Core.List.{List, [], ◌∷◌}
use lib.ListN.{length}
use Rattle.lists.proofs.Tests.{at_test}
use Rattle.steps.specs.State.{State}
use Rattle.trace.specs.Trace.{Entry}
use Rattle.trace.specs.SheetCalls.{sheet_entries}
use Rattle.report.specs.declared.Report.{Report}
use Rattle.report.specs.declared.Row.{Row}
use Rattle.report.specs.Rows.{joined}
use Rattle.report.specs.Growth.{all_waits, grown, grown_from, lane_waits}
use Rattle.report.specs.Lent.{cannot_count, gets17, is_sound, report_after}
use Rattle.report.proofs.Lanes.{from_length, lane_row_grows, row_for}
use Rattle.report.proofs.Rows.{joined_assoc, joined_comm}

-- ---- after a run that gets neither 1 nor 17
pub run_grows : (x : State) (report : Report) (sheet : List ℕ) → is_sound x ≡ true → gets17 x report sheet ≡ false → report_after x report sheet ≡ grown report (sheet_entries x sheet)
run_grows x report sheet s f = let c : cannot_count report sheet ≡ false = rw s at f in rw (s, c)

-- after any run, 1 and 17 included: what is so of the report lent and of the grown one
pub by_report : (x : State) (report : Report) (sheet : List ℕ) (P : Report → Type 0) → P report → (is_sound x ≡ true → P (grown report (sheet_entries x sheet))) → P (report_after x report sheet)
by_report x report sheet P lent more =
    let after = grown report (sheet_entries x sheet) in
    at_test P (is_sound x) (cond (cannot_count report sheet) report after) report
    (λ s. at_test P (cannot_count report sheet) report after (λ c. lent) (λ c. more s))
    (λ u. lent)

-- ---- two runs
module _ (report : Report) (a b : List Entry) where
  pub lane_rows_add_up : (i : ℕ) → i < length report.lane → row_for (grown (grown report a) b) i ≡ joined (row_for report i) (joined (lane_waits i a) (lane_waits i b))
  lane_rows_add_up i h =
      lane_row_grows (grown report a) b i (rw (from_length report.lane 0 a) h)
      ∙ ap (λ (r : Row). joined r (lane_waits i b)) (lane_row_grows report a i h)
      ∙ joined_assoc (row_for report i) (lane_waits i a) (lane_waits i b)

  pub all_rows_add_up : (grown (grown report a) b).all ≡ joined report.all (joined (all_waits a) (all_waits b))
  all_rows_add_up = joined_assoc report.all (all_waits a) (all_waits b)

-- the same of the runs of two sheets, from any two lines
module _ (x y : State) (report : Report) (first second : List ℕ) (sx : is_sound x ≡ true) (fx : gets17 x report first ≡ false) (sy : is_sound y ≡ true) (fy : gets17 y (report_after x report first) second ≡ false) where
  runs_grow : report_after y (report_after x report first) second ≡ grown (grown report (sheet_entries x first)) (sheet_entries y second)
  runs_grow = run_grows y (report_after x report first) second sy fy ∙ ap (λ (r : Report). grown r (sheet_entries y second)) (run_grows x report first sx fx)

  pub lane_rows_of_runs_add_up : (i : ℕ) → i < length report.lane
      → row_for (report_after y (report_after x report first) second) i ≡ joined (row_for report i) (joined (lane_waits i (sheet_entries x first)) (lane_waits i (sheet_entries y second)))
  lane_rows_of_runs_add_up i h = ap (λ (r : Report). row_for r i) runs_grow ∙ lane_rows_add_up report (sheet_entries x first) (sheet_entries y second) i h

  pub all_rows_of_runs_add_up : (report_after y (report_after x report first) second).all ≡ joined report.all (joined (all_waits (sheet_entries x first)) (all_waits (sheet_entries y second)))
  all_rows_of_runs_add_up = ap (λ (r : Report). r.all) runs_grow ∙ all_rows_add_up report (sheet_entries x first) (sheet_entries y second)

-- two additions to a row change places
added_in_turn : (r a b : Row) → joined (joined r a) b ≡ joined (joined r b) a
added_in_turn r a b = joined_assoc r a b ∙ ap (joined r) (joined_comm a b) ∙ sym (joined_assoc r b a)

from_in_turn : (rows : List Row) (first : ℕ) (a b : List Entry) → grown_from first (grown_from first rows a) b ≡ grown_from first (grown_from first rows b) a
unfolding grown_from
from_in_turn [] first a b = refl
from_in_turn (r ∷ rows) first a b = λ j. added_in_turn r (lane_waits first a) (lane_waits first b) j ∷ from_in_turn rows (suc first) a b j

-- of runs: where neither gets 17, which may depend on the order
pub either_order : (report : Report) (a b : List Entry) → grown (grown report a) b ≡ grown (grown report b) a
either_order report a b = λ j. record { lane = from_in_turn report.lane 0 a b j; all = added_in_turn report.all (all_waits a) (all_waits b) j }
