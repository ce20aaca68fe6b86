-- The report of document 01's example sheet, by computation: lane 1 waits once, for one release.
use Prim.Native.Nat.{◌-◌}
use mathlib.Core.Path.{◌≡◌, refl}
use lib.ListN.{replicate}
use mathlib.Core.List.{◌∷◌}
use Rattle.view.specs.View.{block_record, in_order, position_of, view_ok}
use Rattle.limits.specs.Limits.{most_lanes}
use Rattle.line.specs.Sound.{sound}
use Rattle.waitlist.specs.NextLane.{first_raised, next_lane}
use Rattle.event.specs.BigEndian.{big_endian, number_of}
use Rattle.event.specs.Event.{fields_in}
use Rattle.event.specs.ReadWrite.{read_at}
use Rattle.steps.specs.Effects.{started}
use Rattle.steps.specs.State.{fresh}
use Rattle.steps.specs.Step.{step_by}
use Rattle.trace.specs.Trace.{entries}
use Rattle.trace.specs.SheetCalls.{calls_from}
use Rattle.report.specs.Rows.{empty_report, empty_row, row}
use Rattle.report.specs.Growth.{grown_from, releases_to_wake, waits_told}
use Rattle.report.specs.Lent.{report_after}
use Rattle.trials.specs.ExampleSheet.{example_sheet}

pub example_report : report_after (fresh (replicate 64 0)) empty_report example_sheet ≡ record { lane = empty_row ∷ row 1 1 1 0 ∷ replicate (most_lanes - 2) empty_row; all = row 1 1 1 0 }
unfolding block_record in_order position_of view_ok sound first_raised next_lane big_endian number_of fields_in started step_by read_at entries calls_from grown_from releases_to_wake waits_told
example_report = refl
