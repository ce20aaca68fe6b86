-- How long a wait is: from 1 release to the distance of demand 3, which is below the number of lanes; so every row that a run adds, and the largest of the report.
use Prim.Native.Nat.{ℕ, zero, suc, ◌+◌, ◌-◌, ◌≤◌, ◌<◌, max}
use mathlib.Core.Path.{◌≡◌, sym, ap, ◌∙◌}
use mathlib.Core.Bool.{Bool, true, false, cond}
use mathlib.Core.List.{List, [], ◌∷◌}
use native.Mathlib.Omega.{arith}
use native.Mathlib.Nat.{le_trans, mul-le-mul_left}
use lib.ListN.{get_or, length, replicate}
use borrow.Author.Tests.{ne_eqb}
use Rattle.limits.specs.Limits.{most_lanes}
use Rattle.lists.specs.Lists.{bit, some_pass}
use Rattle.lists.proofs.Tests.{at_test, clash}
use Rattle.line.specs.Line.{Shaped, has_turn, is_waiting, phase_at}
use Rattle.line.proofs.Facts.{good_of}
use Rattle.line.proofs.Phases.{waiting_up}
use Rattle.waitlist.specs.Distance.{distance}
use Rattle.waitlist.specs.NextLane.{next_lane}
use Rattle.waitlist.proofs.Nearest.{distance_below_lanes}
use Rattle.steps.specs.State.{State}
use Rattle.steps.specs.Step.{after_by, step_by}
use Rattle.steps.proofs.Keeps.{GoodState}
use Rattle.printout.specs.Run.{run}
use Rattle.trace.specs.Trace.{CallBytes, Entry, after_all, call_in, entries, is_release, tells_to_wait, wakes}
use Rattle.trace.specs.SheetCalls.{calls_in, sheet_entries}
use Rattle.report.specs.declared.Report.{Report}
use Rattle.report.specs.declared.Row.{Row}
use Rattle.report.specs.Rows.{empty_report, empty_row}
use Rattle.report.specs.Growth.{all_waits, ended_row, grown_from, lane_waits, releases_to_wake, tells_any, unended_row, wait_row, waits_told}
use Rattle.report.specs.Lent.{is_sound, report_after}
use Rattle.report.proofs.Means.{WithinReleases, ended_within, joined_within, no_wait_within, unended_within}
use Rattle.demand3.proofs.Goes.{only_turn}
use Rattle.demand3.proofs.Sheets.{sound_run_is_list}
use Rattle.demand3.proofs.Theorem.{after_good, told_waits}
use Rattle.demand3.proofs.Trace.{distance_some, entry_on, then, then_good, turn_on, waiter_other}
use Rattle.demand3.proofs.Turn.{Turn, nearer, no_release, turn_up, up_inside, wakes_waiter}
use Rattle.report.proofs.Lanes.{lane_row_grows, own_lane_told, row_for}
use Rattle.report.proofs.Grown.{by_report}
use Rattle.report_laws.proofs.Lanes.{open_lanes_stay}

-- ---- one wait
-- the releases up to its wake are from 1 to d
pub record FromOneTo (d n : ℕ) : Type 0 where
  pub least : 1 ≤ n
  pub most : n ≤ d

pub wait_within_distance : (gs : List CallBytes) (x : State) (i h : ℕ) → GoodState x → is_waiting (phase_at x.line i) ≡ true → has_turn (phase_at x.line h) ≡ true
    → some_pass (wakes i) (entries next_lane x gs) ≡ true → FromOneTo (distance x.line.lanes h i) (releases_to_wake i (entries next_lane x gs))
unfolding entries releases_to_wake
wait_within_distance [] x i h G wi th s = clash (sym s)
wait_within_distance (g ∷ gs) x i h G wi th s = go (turn_on x G i h wi th g) (λ j. wait_within_distance gs (then x g) i j (then_good x g G))
  where
    go : Turn x i h (entry_on x g) (step_by next_lane x (call_in g))
        → ((j : ℕ) → is_waiting (phase_at (then x g).line i) ≡ true → has_turn (phase_at (then x g).line j) ≡ true → some_pass (wakes i) (entries next_lane (then x g) gs) ≡ true
        → FromOneTo (distance (then x g).line.lanes j i) (releases_to_wake i (entries next_lane (then x g) gs)))
        → FromOneTo (distance x.line.lanes h i) (bit (is_release (entry_on x g)) + cond (wakes i (entry_on x g)) 0 (releases_to_wake i (entries next_lane (then x g) gs)))
    go (no_release a b n w t) ih =
        let r = ih h w t (rw (b i) at s) in
        let d : releases_to_wake i (entries next_lane (then x g) gs) ≤ distance x.line.lanes h i = rw n at r.most in
        rw (a, b i) (record { least = omega arith; most = omega arith })
    go (wakes_waiter a b w) ih =
        let k = up_inside x.line G.facts h (turn_up (phase_at x.line h) th) in
        let p = distance_some x.line.lanes h i k (waiter_other x.line i h wi th) in
        rw (a, b) (record { least = omega arith; most = omega arith })
    go (nearer j a b ne n w t near) ih =
        let f : wakes i (entry_on x g) ≡ false = b i ∙ ne_eqb i j (λ z. ne (sym z)) in
        let r = ih j w t (rw f at s) in
        let d : releases_to_wake i (entries next_lane (then x g) gs) ≤ distance x.line.lanes j i = rw n at r.most in
        rw (a, f) (record { least = omega arith; most = omega arith })

-- ---- the waits that a run tells
-- the wait of a lane that waits
wait_within : (gs : List CallBytes) (x : State) (i : ℕ) → GoodState x → is_waiting (phase_at x.line i) ≡ true → WithinReleases ((after_all next_lane x gs).line.lanes - 1) (wait_row i (entries next_lane x gs))
wait_within gs x i G wi =
    let h = only_turn x.line G.facts i wi in
    let inside = up_inside x.line G.facts i (waiting_up (phase_at x.line i) wi) in
    let turn = up_inside x.line G.facts h.0 (turn_up (phase_at x.line h.0) h.1.has) in
    let d = distance_below_lanes x.line.lanes h.0 i turn inside in
    let n : (after_all next_lane x gs).line.lanes ≡ x.line.lanes = open_lanes_stay gs x (omega arith) in
    rw n
    (at_test (WithinReleases (x.line.lanes - 1)) (some_pass (wakes i) (entries next_lane x gs)) (ended_row (releases_to_wake i (entries next_lane x gs))) unended_row
    (λ t. let r = wait_within_distance gs x i h.0 G wi h.1.has t in ended_within (x.line.lanes - 1) (releases_to_wake i (entries next_lane x gs)) r.least (omega arith))
    (λ t. unended_within (x.line.lanes - 1)))

-- those that a test picks, each of them told by its own lane's call
waits_within : (tells : Entry → Bool) → ((e : Entry) → tells e ≡ true → tells_any e ≡ true) → (gs : List CallBytes) (x : State) → GoodState x
    → WithinReleases ((after_all next_lane x gs).line.lanes - 1) (waits_told tells (entries next_lane x gs))
unfolding entries waits_told after_by
waits_within tells own [] x G = no_wait_within (x.line.lanes - 1)
waits_within tells own (g ∷ gs) x G =
    joined_within ((after_all next_lane (then x g) gs).line.lanes - 1) _ (waits_told tells (entries next_lane (then x g) gs))
    (at_test (WithinReleases ((after_all next_lane (then x g) gs).line.lanes - 1)) (tells (entry_on x g)) (wait_row (entry_on x g).lane (entries next_lane (then x g) gs)) empty_row
    (λ t. wait_within gs (then x g) (entry_on x g).lane (then_good x g G) (told_waits x G g (entry_on x g).lane (own (entry_on x g) t)))
    (λ t. no_wait_within ((after_all next_lane (then x g) gs).line.lanes - 1)))
    (waits_within tells own gs (then x g) (then_good x g G))

-- with N the lanes of the line that the calls leave, each wait that ended took from 1 to N − 1 releases: its largest, and its sum by its times
pub lane_waits_within : (gs : List CallBytes) (x : State) → GoodState x → (i : ℕ) → WithinReleases ((after_all next_lane x gs).line.lanes - 1) (lane_waits i (entries next_lane x gs))
lane_waits_within gs x G i = waits_within (tells_to_wait i) (own_lane_told i) gs x G

pub all_waits_within : (gs : List CallBytes) (x : State) → GoodState x → WithinReleases ((after_all next_lane x gs).line.lanes - 1) (all_waits (entries next_lane x gs))
all_waits_within gs x G = waits_within tells_any (λ e t. t) gs x G

-- ---- the report after the run of a sheet
module _ (x : State) (sheet : List ℕ) (shape : Shaped x.line) (s : is_sound x ≡ true) where
  good : GoodState x
  good = good_of x.line (length x.book) shape s

  lanes_left : (after_all next_lane x (calls_in sheet)).line.lanes ≡ (run x sheet).after.line.lanes
  lanes_left = ap (λ (y : State). y.line.lanes) (sym (sound_run_is_list x sheet shape s).after)

  lanes_few : (run x sheet).after.line.lanes ≤ most_lanes
  lanes_few = rw (← lanes_left) (after_good (calls_in sheet) x good).facts.base.lanes_fit

  sheet_lane_within : (i : ℕ) → WithinReleases ((run x sheet).after.line.lanes - 1) (lane_waits i (sheet_entries x sheet))
  sheet_lane_within i = rw (← lanes_left) (lane_waits_within (calls_in sheet) x good i)

  sheet_all_within : WithinReleases ((run x sheet).after.line.lanes - 1) (all_waits (sheet_entries x sheet))
  sheet_all_within = rw (← lanes_left) (all_waits_within (calls_in sheet) x good)

-- the largest grows to at most N − 1, from a smaller one
module _ (x : State) (report : Report) (sheet : List ℕ) (shape : Shaped x.line) where
  pub lane_largest_below_lanes : (i : ℕ) → i < length report.lane → (row_for (report_after x report sheet) i).largest ≤ max (row_for report i).largest ((run x sheet).after.line.lanes - 1)
  lane_largest_below_lanes i h =
      by_report x report sheet (λ (r : Report). (row_for r i).largest ≤ max (row_for report i).largest ((run x sheet).after.line.lanes - 1)) (omega arith)
      (λ s. let w = (sheet_lane_within x sheet shape s i).largest in rw (lane_row_grows report (sheet_entries x sheet) i h) (omega arith))

  pub all_largest_below_lanes : (report_after x report sheet).all.largest ≤ max report.all.largest ((run x sheet).after.line.lanes - 1)
  all_largest_below_lanes =
      by_report x report sheet (λ (r : Report). r.all.largest ≤ max report.all.largest ((run x sheet).after.line.lanes - 1)) (omega arith)
      (λ s. let w = (sheet_all_within x sheet shape s).largest in omega arith)

-- ---- over any number of sheets: all ended waits of a report took from 1 to m releases each
pub record ReportWithin (m : ℕ) (report : Report) : Type 0 where
  pub lanes : (i : ℕ) → WithinReleases m (row_for report i)
  pub all : WithinReleases m report.all

empty_rows_within : (m n i : ℕ) → WithinReleases m (get_or (replicate n empty_row) i empty_row)
empty_rows_within m zero i = no_wait_within m
empty_rows_within m (suc n) zero = no_wait_within m
empty_rows_within m (suc n) (suc i) = empty_rows_within m n i

pub empty_report_within : (m : ℕ) → ReportWithin m empty_report
empty_report_within m = record { lanes = empty_rows_within m most_lanes; all = no_wait_within m }

weaker : (m k : ℕ) (r : Row) → m ≤ k → WithinReleases m r → WithinReleases k r
weaker m k r h w = record { largest = omega arith; sum_least = w.sum_least; sum_most = le_trans w.sum_most (mul-le-mul_left r.times h) }

rows_within : (m : ℕ) (es : List Entry) → ((i : ℕ) → WithinReleases m (lane_waits i es)) → (rows : List Row) (first : ℕ) → ((i : ℕ) → WithinReleases m (get_or rows i empty_row))
    → (i : ℕ) → WithinReleases m (get_or (grown_from first rows es) i empty_row)
unfolding grown_from
rows_within m es w [] first r i = no_wait_within m
rows_within m es w (row ∷ rows) first r zero = joined_within m row (lane_waits first es) (r 0) (w first)
rows_within m es w (row ∷ rows) first r (suc i) = rows_within m es w rows (suc first) (λ k. r (suc k)) i

module _ (x : State) (report : Report) (sheet : List ℕ) (shape : Shaped x.line) where
  -- runs of sound lines with at most m + 1 lanes keep it, and so do those that get 1 or 17
  pub report_stays_within : (m : ℕ) → (is_sound x ≡ true → (run x sheet).after.line.lanes - 1 ≤ m) → ReportWithin m report → ReportWithin m (report_after x report sheet)
  report_stays_within m few W =
      by_report x report sheet (ReportWithin m) W
      (λ s. record {
        lanes = rows_within m (sheet_entries x sheet) (λ i. weaker _ m (lane_waits i (sheet_entries x sheet)) (few s) (sheet_lane_within x sheet shape s i)) report.lane 0 W.lanes;
        all = joined_within m report.all (all_waits (sheet_entries x sheet)) W.all (weaker _ m (all_waits (sheet_entries x sheet)) (few s) (sheet_all_within x sheet shape s));
      })

  pub report_within_most_lanes : ReportWithin (most_lanes - 1) report → ReportWithin (most_lanes - 1) (report_after x report sheet)
  report_within_most_lanes W = report_stays_within (most_lanes - 1) (λ s. omega (arith, lanes_few x sheet shape s)) W
