-- What a run counts of waiting: a list of numbers, four for each lane and then the releases. Tied to `lane_waits` and `grown` by wait_counts/Totals: total_step, and wait_counts/Reports: report_is.
use Rattle.std.specs.Prelude.{Option, Some, None, ℕ, zero, suc, ◌+◌, ◌-◌, ◌*◌, ◌≤◌, ◌<◌, max, cond, List, ◌≡◌, eqb, get_or, length, replicate, set}
use Rattle.limits.specs.Limits.{most_lanes, most_sheet}
use Rattle.steps.specs.declared.Answer.{Answer}
use Rattle.changes.specs.Change.{entry_of}
use Rattle.report.specs.Rows.{empty_row, joined, row}
use Rattle.report.specs.Lent.{full_number}
use Rattle.report.specs.declared.Report.{Report}
use Rattle.report.specs.declared.Row.{Row}

-- the releases so far, after the four numbers of each lane
abbrev pub releases_at : ℕ
releases_at = 4 * most_lanes

abbrev pub releases_in : List ℕ → ℕ
releases_in c = get_or c releases_at 0

-- of lane i: one more than the releases before it was told to wait, or 0 where no wait of it is counted or it was woken since
abbrev pub mark_in : List ℕ → ℕ → ℕ
mark_in c i = get_or c (4 * i) 0

-- its waits that have ended: times, sum, largest
abbrev pub times_in : List ℕ → ℕ → ℕ
times_in c i = get_or c (4 * i + 1) 0

abbrev pub sum_in : List ℕ → ℕ → ℕ
sum_in c i = get_or c (4 * i + 2) 0

abbrev pub largest_in : List ℕ → ℕ → ℕ
largest_in c i = get_or c (4 * i + 3) 0

abbrev pub no_counts : List ℕ
no_counts = replicate (releases_at + 1) 0

-- ---- one answer
abbrev pub told : List ℕ → ℕ → List ℕ
told c i = set c (4 * i) (releases_in c + 1)

-- the wait of lane i took n releases
abbrev pub ended_after : List ℕ → ℕ → ℕ → List ℕ
ended_after c i n =
    set (set (set (set c (4 * i) 0) (4 * i + 1) (times_in c i + 1)) (4 * i + 2) (sum_in c i + n)) (4 * i + 3) (max (largest_in c i) n)

abbrev pub ended : List ℕ → ℕ → List ℕ
ended c i = cond (eqb (mark_in c i) 0) c (ended_after c i (releases_in c + 1 - mark_in c i))

abbrev pub one_release : List ℕ → List ℕ
one_release c = set c releases_at (releases_in c + 1)

abbrev pub released : List ℕ → Option ℕ → List ℕ
released c (Some w) = ended (one_release c) (entry_of w)
released c None = one_release c

-- what an answer means for waiting: its lane is told to wait, it is an accepted release, with the lane that it wakes, or neither
pub data Sign : Type 0 where
  waits : Sign
  releases : Option ℕ → Sign
  neither : Sign

abbrev pub sign_of : Answer → Sign
sign_of (Answer.Open lanes capacity) = neither
sign_of (Answer.Holds pointer) = neither
sign_of Answer.Waits = waits
sign_of (Answer.Region start count wakes) = releases wakes
sign_of (Answer.Wrote position) = neither
sign_of (Answer.Record content) = neither
sign_of Answer.None = neither
sign_of (Answer.Freed wakes) = releases wakes
sign_of Answer.Gathered = neither
sign_of (Answer.Ordered before total) = neither
sign_of Answer.View = neither
sign_of (Answer.Seek pointer) = neither
sign_of (Answer.Refused number) = neither

abbrev pub counted_by : List ℕ → ℕ → Sign → List ℕ
counted_by c i waits = told c i
counted_by c i (releases wakes) = released c wakes
counted_by c i neither = c

abbrev pub counted : List ℕ → ℕ → Answer → List ℕ
counted c i a = counted_by c i (sign_of a)

-- ---- the end of a run: lane i's waits, one that is still marked among them
abbrev pub closed_row : List ℕ → ℕ → Row
closed_row c i = row (times_in c i) (sum_in c i) (largest_in c i) (cond (eqb (mark_in c i) 0) 0 1)

-- a row joined to lane i's and to that for all
abbrev pub with_waits : Report → ℕ → Row → Report
with_waits r i w = record { lane = set r.lane i (joined (get_or r.lane i empty_row) w); all = joined r.all w }

-- the waits of the first k lanes
unfoldable pub grown_to : ℕ → Report → List ℕ → Report
grown_to zero r c = r
grown_to (suc k) r c = with_waits (grown_to k r c) k (closed_row c k)

-- the releases since a lane that is marked was told to wait
abbrev pub since_told : List ℕ → ℕ → ℕ
since_told c i = cond (eqb (mark_in c i) 0) 0 (releases_in c + 1 - mark_in c i)

-- ---- what is so of all counts of a run: of each lane the waits that ended and the one that has not lie apart among the releases
pub record Consistent (c : List ℕ) : Type 0 where
  pub long : length c ≡ releases_at + 1
  pub mark : (i : ℕ) → i < most_lanes → mark_in c i ≤ releases_in c + 1
  pub times : (i : ℕ) → i < most_lanes → times_in c i ≤ sum_in c i
  pub largest : (i : ℕ) → i < most_lanes → largest_in c i ≤ sum_in c i
  pub sum : (i : ℕ) → i < most_lanes → sum_in c i + since_told c i ≤ releases_in c

-- and there is room for one release more
pub record Countable (c : List ℕ) : Type 0 where
  pub consistent : Consistent c
  pub few : releases_in c < most_sheet

-- ---- what the end asks, so that no sum wraps
-- a row whose numbers are below n
pub record Below (n : ℕ) (r : Row) : Type 0 where
  pub times : r.times < n
  pub sum : r.sum < n
  pub largest : r.largest < n
  pub unended : r.unended < n

-- one lane's waits, of which a run has at most as many as its sheet has bytes
pub record Joinable (r : Row) (c : List ℕ) (i : ℕ) : Type 0 where
  pub below : Below (full_number + most_lanes * most_sheet) r
  pub consistent : Consistent c
  pub few : releases_in c ≤ most_sheet
  pub inside : i < most_lanes

pub record Growable (r : Report) (c : List ℕ) : Type 0 where
  pub lane : (i : ℕ) → i < most_lanes → Below full_number (get_or r.lane i empty_row)
  pub all : Below full_number r.all
  pub long : length r.lane ≡ most_lanes
  pub consistent : Consistent c
  pub few : releases_in c ≤ most_sheet
