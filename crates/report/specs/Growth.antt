-- Wish 1: what a run adds to the report of waiting, read off its calls and their answers. "Told to wait", "release" and "wakes" are demand 3's (trace/Trace).
use Rattle.std.specs.Prelude.{ℕ, suc, ◌+◌, Bool, cond, List, [], ◌∷◌}
use Rattle.lists.specs.Lists.{bit, some_pass}
use Rattle.trace.specs.Trace.{Entry, is_release, tells_to_wait, wakes}
use Rattle.report.specs.declared.Report.{Report}
use Rattle.report.specs.declared.Row.{Row}
use Rattle.report.specs.Rows.{empty_row, joined, row}

-- ---- one wait of lane i, by the calls after the answer that told it to wait
-- "the accepted releases after that answer up to the one that sends its wake, that one included"
unfoldable pub releases_to_wake : ℕ → List Entry → ℕ
releases_to_wake i [] = 0
releases_to_wake i (e ∷ later) = bit (is_release e) + cond (wakes i e) 0 (releases_to_wake i later)

-- a wait that ended after n releases
abbrev pub ended_row : ℕ → Row
ended_row n = row 1 n n 0

-- "Waits not ended when a sheet's run ends are counted apart and enter neither the times nor a sum": so times are the waits that ended
abbrev pub unended_row : Row
unended_row = row 0 0 0 1

abbrev pub wait_row : ℕ → List Entry → Row
wait_row i later = cond (some_pass (wakes i) later) (ended_row (releases_to_wake i later)) unended_row

-- ---- the waits that are told by the calls that a test picks; "a wait told before the run began is left out", as no call of the run tells it
unfoldable pub waits_told : (Entry → Bool) → List Entry → Row
waits_told tells [] = empty_row
waits_told tells (e ∷ later) = joined (cond (tells e) (wait_row e.lane later) empty_row) (waits_told tells later)

abbrev pub lane_waits : ℕ → List Entry → Row
lane_waits i entries = waits_told (tells_to_wait i) entries

abbrev pub tells_any : Entry → Bool
tells_any e = tells_to_wait e.lane e

abbrev pub all_waits : List Entry → Row
all_waits entries = waits_told tells_any entries

-- ---- the report after a run, "per lane and in all"; "those for all lanes are kept in the report and grow from their own values"
unfoldable pub grown_from : ℕ → List Row → List Entry → List Row
grown_from i [] entries = []
grown_from i (r ∷ rows) entries = joined r (lane_waits i entries) ∷ grown_from (suc i) rows entries

abbrev pub grown : Report → List Entry → Report
grown report entries = record { lane = grown_from 0 report.lane entries; all = joined report.all (all_waits entries) }
