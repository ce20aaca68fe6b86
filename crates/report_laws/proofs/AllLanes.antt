-- The row for all lanes grows by what the rows of the lanes grow by, together.
use Prim.Native.Nat.{ℕ}
use mathlib.Core.Path.{◌≡◌}
use mathlib.Core.List.{List}
use lib.ListN.{length}
use Rattle.limits.specs.Limits.{most_lanes}
use Rattle.line.specs.Line.{Shaped}
use Rattle.line.proofs.Facts.{good_of}
use Rattle.steps.specs.State.{State}
use Rattle.trace.specs.SheetCalls.{calls_in, sheet_entries}
use Rattle.report.specs.declared.Report.{Report}
use Rattle.report.specs.Rows.{joined}
use Rattle.report.specs.Lent.{report_after}
use Rattle.report.proofs.Lanes.{joined_rows, rows_grow}
use Rattle.wait_counts.proofs.Reports.{all_waits_are_lanes_joined}
use Rattle.report.proofs.Grown.{by_report}

-- where the row for all lanes is the lanes' rows joined, it is so after a run
pub all_row_stays_lanes_joined : (x : State) (report : Report) (sheet : List ℕ) → Shaped x.line → length report.lane ≡ most_lanes → report.all ≡ joined_rows report.lane
    → (report_after x report sheet).all ≡ joined_rows (report_after x report sheet).lane
all_row_stays_lanes_joined x report sheet shape n e =
    by_report x report sheet (λ (r : Report). r.all ≡ joined_rows r.lane) e
    (λ s. let w = all_waits_are_lanes_joined (calls_in sheet) x (good_of x.line (length x.book) shape s) in
    rw (rows_grow report.lane 0 (sheet_entries x sheet), n) (λ j. joined (e j) (w j)))
