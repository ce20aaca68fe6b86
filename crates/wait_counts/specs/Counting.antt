-- What the counts of a run say of its calls: the waits counted so far with those that the rest of the run comes to are those of the whole run. Tied to the calls by wait_counts/Marks: goes.
use Rattle.std.specs.Prelude.{ℕ, ◌+◌, ◌-◌, ◌<◌, ◌≡◌, false, cond, List, eqb}
use Rattle.limits.specs.Limits.{most_lanes}
use Rattle.lists.specs.Lists.{some_pass}
use Rattle.line.specs.Line.{is_waiting, phase_at}
use Rattle.steps.specs.State.{State}
use Rattle.trace.specs.Trace.{Entry, wakes}
use Rattle.report.specs.Growth.{ended_row, lane_waits, releases_to_wake, unended_row}
use Rattle.report.specs.Rows.{empty_row, joined, row}
use Rattle.report.specs.declared.Row.{Row}
use Rattle.wait_counts.specs.Counts.{Consistent, largest_in, mark_in, releases_in, sum_in, times_in}

-- the waits that have ended
abbrev pub ended_in : List ℕ → ℕ → Row
ended_in c i = row (times_in c i) (sum_in c i) (largest_in c i) 0

-- a wait under way with this mark, after so many releases, by the calls that are left
abbrev pub under_way : ℕ → ℕ → ℕ → List Entry → Row
under_way mark past i later = cond (eqb mark 0) empty_row (cond (some_pass (wakes i) later) (ended_row (past + 1 - mark + releases_to_wake i later)) unended_row)

abbrev pub lane_total : List ℕ → ℕ → List Entry → Row
lane_total c i later = joined (ended_in c i) (joined (under_way (mark_in c i) (releases_in c) i later) (lane_waits i later))

-- a lane that does not wait has no mark
abbrev pub Marked : State → List ℕ → Type 0
Marked x c = (j : ℕ) → j < most_lanes → is_waiting (phase_at x.line j) ≡ false → mark_in c j ≡ 0

-- counts that fit the line as it is
pub record Counting (x : State) (c : List ℕ) : Type 0 where
  pub consistent : Consistent c
  pub marked : Marked x c

-- counts c, with `later` still to come, count what counts c₀ do, with `all` still to come
abbrev pub SameTotals : List ℕ → List Entry → List ℕ → List Entry → Type 0
SameTotals c later c₀ all = (i : ℕ) → i < most_lanes → lane_total c i later ≡ lane_total c₀ i all
