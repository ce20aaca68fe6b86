-- From the counts at a run's end to the report: what is counted of each lane, joined to the report, is what the run's calls tell.
use Prim.Native.Nat.{ℕ, zero, suc, ◌+◌, ◌*◌, ◌≤◌, ◌<◌}
use mathlib.Core.Path.{◌≡◌, refl, sym, ap, ◌∙◌}
use mathlib.Core.Bool.{true, cond}
use mathlib.Core.List.{List, [], ◌∷◌}
use native.Mathlib.Omega.{arith}
use native.Mathlib.Decide.{ℕ_discrete}
use native.Mathlib.Nat.{zero-add}
use lib.ListN.{get_or, length, length-replicate, replicate}
use lib.Seq.{ext_get_or, get_or-set_other, get_or-set_same}
use Rattle.limits.specs.Limits.{most_lanes}
use Rattle.lists.proofs.Tests.{clash}
use Rattle.waitlist.specs.NextLane.{next_lane}
use Rattle.steps.specs.State.{State}
use Rattle.steps.specs.Step.{step_by}
use Rattle.steps.proofs.Cases.{steps}
use Rattle.steps.proofs.Keeps.{GoodState, keeps}
use Rattle.trace.specs.Trace.{CallBytes, Entry, call_in, entries, entry, said_to}
use Rattle.report.specs.declared.Report.{Report}
use Rattle.report.specs.declared.Row.{Row}
use Rattle.report.specs.Rows.{empty_row, joined}
use Rattle.report.specs.Growth.{all_waits, grown, grown_from, lane_waits, tells_any, wait_row, waits_told}
use Rattle.report.proofs.Lanes.{call_adds, from_length, lane_row_grows, lanes_more, lanes_waits, no_lanes_wait}
use Rattle.report.proofs.Rows.{empty_joined, joined_assoc, joined_empty}
use Rattle.wait_counts.specs.Counts.{Sign, closed_row, grown_to, neither, no_counts, releases, releases_at, sign_of, waits}
use Rattle.wait_counts.specs.Counting.{Counting, lane_total}
use Rattle.wait_counts.proofs.Growing.{grown_length, later_row}
use Rattle.wait_counts.proofs.Marks.{next_call}
use Rattle.wait_counts.proofs.Totals.{Proper, Shows}

-- ---- at the start nothing is counted
zeros : (n k : ℕ) → ◌≡◌ {A = ℕ} (get_or (replicate n 0) k 0) 0
zeros zero k = refl
zeros (suc n) zero = refl
zeros (suc n) (suc k) = zeros n k

pub none_counted : (x : State) → Counting x no_counts
none_counted x =
    record {
      consistent = record {
        long = length-replicate {A = ℕ} (releases_at + 1) 0;
        mark = λ i h. rw (zeros (releases_at + 1) (4 * i)) (omega arith);
        times = λ i h. rw (zeros (releases_at + 1) (4 * i + 1)) (omega arith);
        largest = λ i h. rw (zeros (releases_at + 1) (4 * i + 3)) (omega arith);
        sum = λ i h. rw (zeros (releases_at + 1) (4 * i), zeros (releases_at + 1) (4 * i + 2)) (omega arith);
      };
      marked = λ i h w. zeros (releases_at + 1) (4 * i);
    }

pub total_start : (i : ℕ) (es : List Entry) → lane_total no_counts i es ≡ lane_waits i es
total_start i es =
    rw (zeros (releases_at + 1) (4 * i), zeros (releases_at + 1) (4 * i + 1), zeros (releases_at + 1) (4 * i + 2), zeros (releases_at + 1) (4 * i + 3))
    (empty_joined (joined empty_row (lane_waits i es)) ∙ empty_joined (lane_waits i es))

-- ---- all lanes: a lane that is told to wait is one that a line can have
told_proper : (e : Entry) (s : Sign) → Shows e s → Proper no_counts e.lane s → tells_any e ≡ true → e.lane < most_lanes
told_proper e waits W P t = P.0
told_proper e (releases w) W P t = clash (sym t ∙ W.tells e.lane)
told_proper e neither W P t = clash (sym t ∙ W.tells e.lane)

told_inside : (x : State) → GoodState x → (g : CallBytes) → tells_any (entry g (said_to next_lane x g)) ≡ true → (entry g (said_to next_lane x g)).lane < most_lanes
told_inside x G g t =
    let N = next_call x G no_counts (none_counted x).consistent (none_counted x).marked g in
    told_proper (entry g (said_to next_lane x g)) (sign_of (step_by next_lane x (call_in g)).answer) N.shows N.proper t

pub all_waits_are_lanes_joined : (gs : List CallBytes) (x : State) → GoodState x → all_waits (entries next_lane x gs) ≡ lanes_waits 0 most_lanes (entries next_lane x gs)
unfolding entries waits_told
all_waits_are_lanes_joined [] x G = sym (no_lanes_wait 0 most_lanes)
all_waits_are_lanes_joined (g ∷ gs) x G =
    let y = (step_by next_lane x (call_in g)).after in
    let e = entry g (said_to next_lane x g) in
    ap (joined (cond (tells_any e) (wait_row e.lane (entries next_lane y gs)) empty_row)) (all_waits_are_lanes_joined gs y (keeps G (steps next_lane x (call_in g))))
    ∙ sym (call_adds e (entries next_lane y gs) most_lanes (told_inside x G g))

-- ---- the report
module _ (report : Report) (c : List ℕ) (es : List Entry) (long : length report.lane ≡ most_lanes) (each : (i : ℕ) → i < most_lanes → closed_row c i ≡ lane_waits i es) where
  grown_row : (k i : ℕ) → k ≤ most_lanes → i < k → get_or (grown_to k report c).lane i empty_row ≡ joined (get_or report.lane i empty_row) (lane_waits i es)
  unfolding grown_to
  grown_row zero i b h = absurd (omega arith)
  grown_row (suc k) i b h = elim (ℕ_discrete i k) [
    | yes q ↦
        rw q
        (get_or-set_same (grown_to k report c).lane k (joined (get_or (grown_to k report c).lane k empty_row) (closed_row c k)) empty_row (omega (arith, grown_length report c k, long))
        ∙ (λ j. joined (later_row report c k k (omega arith) j) (each k (omega arith) j)))
    | no n ↦ get_or-set_other (grown_to k report c).lane k i (joined (get_or (grown_to k report c).lane k empty_row) (closed_row c k)) empty_row n ∙ grown_row k i (omega arith) (omega arith)
  ]

  grown_sum : (k : ℕ) → k ≤ most_lanes → (grown_to k report c).all ≡ joined report.all (lanes_waits 0 k es)
  unfolding grown_to lanes_waits
  grown_sum zero b = sym (joined_empty report.all)
  grown_sum (suc k) b =
      ap (λ (r : Row). joined r (closed_row c k)) (grown_sum k (omega arith))
      ∙ ap (joined (joined report.all (lanes_waits 0 k es))) (each k (omega arith))
      ∙ joined_assoc report.all (lanes_waits 0 k es) (lane_waits k es)
      ∙ ap (joined report.all) (rw (zero-add k) at (sym (lanes_more 0 k es)))

  pub report_is : all_waits es ≡ lanes_waits 0 most_lanes es → grown_to most_lanes report c ≡ grown report es
  report_is all = λ j. record { lane = rows j; all = sum j }
    where
      sum : (grown_to most_lanes report c).all ≡ joined report.all (all_waits es)
      sum = grown_sum most_lanes (omega arith) ∙ ap (joined report.all) (sym all)

      rows : (grown_to most_lanes report c).lane ≡ grown_from 0 report.lane es
      rows =
          ext_get_or empty_row _ _ (grown_length report c most_lanes ∙ sym (from_length report.lane 0 es))
          (λ i h. let b : i < most_lanes = omega (arith, grown_length report c most_lanes, long) in grown_row most_lanes i (omega arith) b ∙ sym (lane_row_grows report es i (omega (arith, long))))
