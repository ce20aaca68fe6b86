-- The report as the lanes' waits are joined to it one after the other: which rows are as they were, and that no number comes near its bound.
use Prim.Native.Nat.{ℕ, zero, suc, ◌+◌, ◌*◌, ◌≤◌, ◌<◌}
use mathlib.Core.Path.{◌≡◌, refl, ◌∙◌}
use mathlib.Core.List.{List}
use native.Mathlib.Omega.{arith}
use native.Mathlib.Numerals.{add-one}
use lib.ListN.{get_or, length, length-set}
use lib.Seq.{get_or-set_other}
use lib.Dec.{eqb}
use Rattle.limits.specs.Limits.{most_lanes, most_sheet}
use Rattle.lists.proofs.Tests.{by_test}
use Rattle.report.specs.Lent.{full_number}
use Rattle.report.specs.Rows.{empty_row}
use Rattle.report.specs.declared.Report.{Report}
use Rattle.wait_counts.specs.Counts.{Below, Growable, Joinable, Consistent, closed_row, grown_to, mark_in, releases_in, with_waits}

-- a lane's waits in one run are few
pub closed_below : (c : List ℕ) (i : ℕ) → Consistent c → releases_in c ≤ most_sheet → i < most_lanes → Below (most_sheet + 1) (closed_row c i)
closed_below c i S few h =
    let t = S.times i h in
    let l = S.largest i h in
    let s = S.sum i h in
    record {
      times = omega arith;
      sum = omega arith;
      largest = omega arith;
      unended = by_test (eqb (mark_in c i) 0) (λ t. rw t (omega arith)) (λ t. rw t (omega arith));
    }

module _ (r : Report) (c : List ℕ) where
  -- rows that are not yet reached
  pub later_row : (k j : ℕ) → k ≤ j → get_or (grown_to k r c).lane j empty_row ≡ get_or r.lane j empty_row
  unfolding grown_to
  later_row zero j h = refl
  later_row (suc k) j h = get_or-set_other (grown_to k r c).lane k j _ empty_row (λ q. absurd (omega arith)) ∙ later_row k j (omega arith)

  pub grown_length : (k : ℕ) → length (grown_to k r c).lane ≡ length r.lane
  unfolding grown_to
  grown_length zero = refl
  grown_length (suc k) = length-set (grown_to k r c).lane k _ ∙ grown_length k

  pub grown_all : Growable r c → (k : ℕ) → k ≤ most_lanes → Below (full_number + most_sheet * k) (grown_to k r c).all
  unfolding grown_to
  grown_all G zero h = let b = G.all in record { times = omega (arith, b.times); sum = omega (arith, b.sum); largest = omega (arith, b.largest); unended = omega (arith, b.unended) }
  grown_all G (suc k) h =
      let a = grown_all G k (omega arith) in
      let b = closed_below c k G.consistent G.few (omega arith) in
      record {
        times = omega (arith, a.times, b.times);
        sum = omega (arith, a.sum, b.sum);
        largest = omega (arith, a.largest, b.largest);
        unended = omega (arith, a.unended, b.unended);
      }

  pub grown_none : r ≡ grown_to 0 r c
  unfolding grown_to
  grown_none = refl

  pub grown_more : (g : Report) (k : ℕ) → g ≡ grown_to k r c → with_waits g k (closed_row c k) ≡ grown_to (k + 1) r c
  unfolding grown_to
  grown_more g k e = rw (add-one k, e)

  -- the two rows to which the waits of lane k are joined
  pub lane_below : Growable r c → (g : Report) (k : ℕ) → g ≡ grown_to k r c → k < most_lanes → Below (full_number + most_lanes * most_sheet) (get_or g.lane k empty_row)
  lane_below G g k e h =
      let b = G.lane k h in
      let same : get_or g.lane k empty_row ≡ get_or r.lane k empty_row = rw e (later_row k k (omega arith)) in
      rw same (record { times = omega (arith, b.times); sum = omega (arith, b.sum); largest = omega (arith, b.largest); unended = omega (arith, b.unended) })

  pub all_below : Growable r c → (g : Report) (k : ℕ) → g ≡ grown_to k r c → k < most_lanes → Below (full_number + most_lanes * most_sheet) g.all
  all_below G g k e h =
      let b = grown_all G k (omega arith) in
      rw e (record { times = omega (arith, b.times); sum = omega (arith, b.sum); largest = omega (arith, b.largest); unended = omega (arith, b.unended) })

  -- so each of their numbers has room for them
  pub joins_lane : Growable r c → (g : Report) (k : ℕ) → g ≡ grown_to k r c → k < most_lanes → Joinable (get_or g.lane k empty_row) c k
  joins_lane G g k e h = record { below = lane_below G g k e h; consistent = G.consistent; few = G.few; inside = h }

  pub joins_all : Growable r c → (g : Report) (k : ℕ) → g ≡ grown_to k r c → k < most_lanes → Joinable g.all c k
  joins_all G g k e h = record { below = all_below G g k e h; consistent = G.consistent; few = G.few; inside = h }
