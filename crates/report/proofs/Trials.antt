-- Trials of what a run adds to the report, by computation, over small lists of calls with their answers.
use Prim.Native.Nat.{ℕ}
use mathlib.Core.Path.{◌≡◌, refl}
use mathlib.Core.List.{List, [], ◌∷◌, map}
use Rattle.steps.specs.Answer.{Said, accepts, said_by}
use Rattle.steps.specs.declared.Answer.{Answer}
use Rattle.trace.specs.Trace.{Entry}
use Rattle.report.specs.declared.Report.{Report}
use Rattle.report.specs.declared.Row.{Row}
use Rattle.report.specs.Rows.{empty_row, row}
use Rattle.report.specs.Growth.{all_waits, grown, grown_from, lane_waits, releases_to_wake, waits_told}

-- ---- calls with their answers
abbrev called_by : ℕ → ℕ → Said → Entry
called_by lane kind said = record { kind = kind; lane = lane; purpose = 0; count = 0; said = said }

abbrev told_to_wait : ℕ → Entry
told_to_wait i = called_by i 0x02 (accepts 0x02 [])

-- a take or a free, and the lanes that it wakes
abbrev takes : ℕ → List ℕ → Entry
takes h woken = called_by h 0x04 (accepts 0x04 (0 ∷ 1 ∷ woken))

abbrev frees : ℕ → List ℕ → Entry
frees h woken = called_by h 0x09 (accepts 0x09 woken)

abbrev refused_take : ℕ → Entry
refused_take h = called_by h 0x04 (said_by (Answer.Refused 13))

abbrev rows_of : List Entry → List Row
rows_of entries = map (λ (i : ℕ). lane_waits i entries) (0 ∷ 1 ∷ 2 ∷ [])

-- ---- lanes 1 and 2 wait; a release counts for both, the one that wakes too; a refused take counts for none
abbrev two_wait_lem : List Entry
two_wait_lem = told_to_wait 1 ∷ told_to_wait 2 ∷ takes 0 (1 ∷ []) ∷ refused_take 0 ∷ frees 1 (2 ∷ []) ∷ []

pub two_wait : rows_of two_wait_lem ≡ empty_row ∷ row 1 1 1 0 ∷ row 1 2 2 0 ∷ []
unfolding waits_told releases_to_wake
two_wait = refl

pub two_wait_all : all_waits two_wait_lem ≡ row 2 3 2 0
unfolding waits_told releases_to_wake
two_wait_all = refl

-- ---- lane 1's wait has not ended; lane 2 is woken from a wait that was told before, which is left out
abbrev not_ended_lem : List Entry
not_ended_lem = told_to_wait 1 ∷ takes 0 (2 ∷ []) ∷ []

pub not_ended : rows_of not_ended_lem ≡ empty_row ∷ row 0 0 0 1 ∷ empty_row ∷ []
unfolding waits_told releases_to_wake
not_ended = refl

pub not_ended_all : all_waits not_ended_lem ≡ row 0 0 0 1
unfolding waits_told releases_to_wake
not_ended_all = refl

-- ---- lane 1 is told to wait twice, and is woken by the first release and then by the second; a release while it does not wait counts for none
abbrev told_twice_lem : List Entry
told_twice_lem = told_to_wait 1 ∷ takes 0 (1 ∷ []) ∷ takes 1 [] ∷ told_to_wait 1 ∷ takes 0 (2 ∷ []) ∷ takes 2 (1 ∷ []) ∷ []

pub told_twice : rows_of told_twice_lem ≡ empty_row ∷ row 2 3 2 0 ∷ empty_row ∷ []
unfolding waits_told releases_to_wake
told_twice = refl

-- ---- a report of two lanes grows by it: the row for all from its own values
abbrev lent : Report
lent = record { lane = row 1 7 7 0 ∷ row 3 4 2 1 ∷ []; all = row 20 30 4 5 }

pub lent_grows : grown lent told_twice_lem ≡ record { lane = row 1 7 7 0 ∷ row 5 7 2 1 ∷ []; all = row 22 33 4 5 }
unfolding waits_told releases_to_wake grown_from
lent_grows = refl
