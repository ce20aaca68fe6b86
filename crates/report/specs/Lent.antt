-- Wish 1: the run of a sheet to which a report is lent, its refusal 17, and the report that it leaves.
use Rattle.std.specs.Prelude.{ℕ, ◌^◌, Bool, cond, ◌&&◌, ◌||◌, List, [], ◌∷◌, leb, ltb, length}
use Rattle.limits.specs.Limits.{most_sheet}
use Rattle.lists.specs.Lists.{some_pass}
use Rattle.line.specs.Sound.{sound}
use Rattle.steps.specs.State.{State}
use Rattle.steps.specs.declared.Answer.{Answer}
use Rattle.printout.specs.Run.{Ran, answered, done, run}
use Rattle.trace.specs.SheetCalls.{sheet_entries}
use Rattle.report.specs.declared.Report.{Report}
use Rattle.report.specs.declared.Row.{Row}
use Rattle.report.specs.Growth.{grown}

-- "any number of the report lent is 2^63 or more"
abbrev pub full_number : ℕ
full_number = 2 ^ 63

abbrev pub is_full_row : Row → Bool
is_full_row r = some_pass (leb full_number) (r.times ∷ r.sum ∷ r.largest ∷ r.unended ∷ [])

abbrev pub is_full : Report → Bool
is_full report = is_full_row report.all || some_pass is_full_row report.lane

-- "or the sheet is over 65,536 bytes"
abbrev pub cannot_count : Report → List ℕ → Bool
cannot_count report sheet = is_full report || ltb most_sheet (length sheet)

-- "before the first event of a run": of a sound line, since "it comes after 1"
abbrev pub is_sound : State → Bool
is_sound x = sound x.line (length x.book)

abbrev pub gets17 : State → Report → List ℕ → Bool
gets17 x report sheet = is_sound x && cannot_count report sheet

-- the run: what `run` answers and leaves, but for 17
abbrev pub run_lent : State → Report → List ℕ → Ran
run_lent x report sheet = cond (gets17 x report sheet) (answered (Answer.Refused 17) (done x)) (run x sheet)

-- the report after it: "both end the run and leave the report as lent"
abbrev pub report_after : State → Report → List ℕ → Report
report_after x report sheet = cond (is_sound x) (cond (cannot_count report sheet) report (grown report (sheet_entries x sheet))) report
