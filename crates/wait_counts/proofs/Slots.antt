-- The numbers of a lane after one answer is counted, lane by lane.
use Prim.Native.Nat.{ℕ, ◌+◌, ◌-◌, ◌*◌, ◌≤◌, ◌<◌, max}
use mathlib.Core.Path.{◌≡◌, ◌∙◌}
use mathlib.Core.Logic.{◌≢◌}
use mathlib.Core.Bool.{false, cond}
use mathlib.Core.List.{List}
use native.Mathlib.Omega.{arith}
use native.Mathlib.Decide.{ℕ_discrete}
use lib.ListN.{get_or, length, length-set, set}
use lib.Seq.{get_or-set_other, get_or-set_same}
use lib.Dec.{eqb}
use borrow.Author.Tests.{ne_eqb}
use Rattle.limits.specs.Limits.{most_lanes}
use Rattle.lists.proofs.Tests.{by_test}
use Rattle.wait_counts.specs.Counts.{Consistent, ended, ended_after, largest_in, mark_in, one_release, releases_at, releases_in, sum_in, times_in, told}

-- ---- one release more
module _ (c : List ℕ) (S : Consistent c) where
  pub release_count : releases_in (one_release c) ≡ releases_in c + 1
  release_count = get_or-set_same c releases_at (releases_in c + 1) 0 (omega (arith, S.long))

  pub release_slot : (k : ℕ) → k < releases_at → get_or (one_release c) k 0 ≡ get_or c k 0
  release_slot k h = get_or-set_other c releases_at k (releases_in c + 1) 0 (λ q. absurd (omega arith))

  pub release_consistent : Consistent (one_release c)
  release_consistent =
      record {
        long = length-set c releases_at (releases_in c + 1) ∙ S.long;
        mark = λ i h. rw (release_count, release_slot (4 * i) (omega arith)) (let m = S.mark i h in omega arith);
        times = λ i h. rw (release_slot (4 * i + 1) (omega arith), release_slot (4 * i + 2) (omega arith)) (S.times i h);
        largest = λ i h. rw (release_slot (4 * i + 3) (omega arith), release_slot (4 * i + 2) (omega arith)) (S.largest i h);
        sum = λ i h.
            rw (release_count, release_slot (4 * i) (omega arith), release_slot (4 * i + 2) (omega arith))
            (let k = S.mark i h in
            let m = S.sum i h in
            by_test (eqb (mark_in c i) 0) (λ t. rw t (let u : sum_in c i + 0 ≤ releases_in c = rw t at m in omega arith)) (λ t. rw t (let u : sum_in c i + (releases_in c + 1 - mark_in c i) ≤ releases_in c = rw t at m in omega arith)));
      }

-- ---- a lane is told to wait
module _ (c : List ℕ) (S : Consistent c) (i : ℕ) (h : i < most_lanes) where
  pub told_mark : mark_in (told c i) i ≡ releases_in c + 1
  told_mark = get_or-set_same c (4 * i) (releases_in c + 1) 0 (omega (arith, S.long))

  pub told_slot : (k : ℕ) → k ≢ 4 * i → get_or (told c i) k 0 ≡ get_or c k 0
  told_slot k n = get_or-set_other c (4 * i) k (releases_in c + 1) 0 n

-- ---- the wait of a lane ends after n releases
module _ (c : List ℕ) (S : Consistent c) (i n : ℕ) (h : i < most_lanes) where
  abbrev c₁ : List ℕ
  c₁ = set c (4 * i) 0

  abbrev c₂ : List ℕ
  c₂ = set c₁ (4 * i + 1) (times_in c i + 1)

  abbrev c₃ : List ℕ
  c₃ = set c₂ (4 * i + 2) (sum_in c i + n)

  long₁ : length c₁ ≡ releases_at + 1
  long₁ = length-set c (4 * i) 0 ∙ S.long

  long₂ : length c₂ ≡ releases_at + 1
  long₂ = length-set c₁ (4 * i + 1) (times_in c i + 1) ∙ long₁

  long₃ : length c₃ ≡ releases_at + 1
  long₃ = length-set c₂ (4 * i + 2) (sum_in c i + n) ∙ long₂

  pub ended_long : length (ended_after c i n) ≡ releases_at + 1
  ended_long = length-set c₃ (4 * i + 3) (max (largest_in c i) n) ∙ long₃

  pub ended_mark : mark_in (ended_after c i n) i ≡ 0
  ended_mark =
      get_or-set_other c₃ (4 * i + 3) (4 * i) _ 0 (λ q. absurd (omega arith))
      ∙ get_or-set_other c₂ (4 * i + 2) (4 * i) _ 0 (λ q. absurd (omega arith))
      ∙ get_or-set_other c₁ (4 * i + 1) (4 * i) _ 0 (λ q. absurd (omega arith))
      ∙ get_or-set_same c (4 * i) 0 0 (omega (arith, S.long))

  pub ended_times : times_in (ended_after c i n) i ≡ times_in c i + 1
  ended_times =
      get_or-set_other c₃ (4 * i + 3) (4 * i + 1) _ 0 (λ q. absurd (omega arith))
      ∙ get_or-set_other c₂ (4 * i + 2) (4 * i + 1) _ 0 (λ q. absurd (omega arith))
      ∙ get_or-set_same c₁ (4 * i + 1) (times_in c i + 1) 0 (omega (arith, long₁))

  pub ended_sum : sum_in (ended_after c i n) i ≡ sum_in c i + n
  ended_sum =
      get_or-set_other c₃ (4 * i + 3) (4 * i + 2) _ 0 (λ q. absurd (omega arith)) ∙ get_or-set_same c₂ (4 * i + 2) (sum_in c i + n) 0 (omega (arith, long₂))

  pub ended_largest : largest_in (ended_after c i n) i ≡ max (largest_in c i) n
  ended_largest = get_or-set_same c₃ (4 * i + 3) (max (largest_in c i) n) 0 (omega (arith, long₃))

  -- every other number stays
  pub ended_slot : (k : ℕ) → ((m : ℕ) → m < 4 → k ≢ 4 * i + m) → get_or (ended_after c i n) k 0 ≡ get_or c k 0
  ended_slot k apart =
      get_or-set_other c₃ (4 * i + 3) k _ 0 (apart 3 (omega arith))
      ∙ get_or-set_other c₂ (4 * i + 2) k _ 0 (apart 2 (omega arith))
      ∙ get_or-set_other c₁ (4 * i + 1) k _ 0 (apart 1 (omega arith))
      ∙ get_or-set_other c (4 * i) k _ 0 (λ q. apart 0 (omega arith) (omega arith))

  pub ended_releases : releases_in (ended_after c i n) ≡ releases_in c
  ended_releases = ended_slot releases_at (λ m b q. absurd (omega arith))

-- a number of another lane
pub apart : (i j k : ℕ) → j ≢ i → k < 4 → (m : ℕ) → m < 4 → 4 * j + k ≢ 4 * i + m
apart i j k n b m d q = n (omega arith)

-- ---- what is so of all counts stays so
module _ (c : List ℕ) (S : Consistent c) (i : ℕ) (h : i < most_lanes) where
  pub told_consistent : Consistent (told c i)
  told_consistent =
      record {
        long = length-set c (4 * i) (releases_in c + 1) ∙ S.long;
        mark = λ j b. rw same (elim (ℕ_discrete j i) [
          | yes q ↦ rw (q, told_mark c S i h) (omega arith)
          | no m ↦ rw (told_slot c S i h (4 * j) (λ q. m (omega arith))) (S.mark j b)
        ]);
        times = λ j b. rw (told_slot c S i h (4 * j + 1) (λ q. absurd (omega arith)), told_slot c S i h (4 * j + 2) (λ q. absurd (omega arith))) (S.times j b);
        largest = λ j b. rw (told_slot c S i h (4 * j + 3) (λ q. absurd (omega arith)), told_slot c S i h (4 * j + 2) (λ q. absurd (omega arith))) (S.largest j b);
        sum = λ j b. rw (same, told_slot c S i h (4 * j + 2) (λ q. absurd (omega arith))) (elim (ℕ_discrete j i) [
          | yes q ↦ here j b q
          | no m ↦ rw (told_slot c S i h (4 * j) (λ q. m (omega arith))) (S.sum j b)
        ]);
      }
    where
      same : releases_in (told c i) ≡ releases_in c
      same = told_slot c S i h releases_at (λ q. absurd (omega arith))

      here : (j : ℕ) → j < most_lanes → j ≡ i → sum_in c j + cond (eqb (mark_in (told c i) j) 0) 0 (releases_in c + 1 - mark_in (told c i) j) ≤ releases_in c
      here j b q =
          let s = S.sum j b in
          let e : mark_in (told c i) j ≡ releases_in c + 1 = rw q (told_mark c S i h) in
          rw (e, ne_eqb (releases_in c + 1) 0 (λ z. absurd (omega arith))) (omega arith)

  -- where the wait took a release at least
  pub ended_consistent : mark_in c i ≤ releases_in c → Consistent (ended c i)
  ended_consistent past = by_test (eqb (mark_in c i) 0) (λ t. rw t S) (λ t. rw t (after t))
    where
      pend : eqb (mark_in c i) 0 ≡ false → sum_in c i + (releases_in c + 1 - mark_in c i) ≤ releases_in c
      pend t = rw t at (S.sum i h)

      other : (j k : ℕ) → j ≢ i → k < 4 → get_or (ended_after c i (releases_in c + 1 - mark_in c i)) (4 * j + k) 0 ≡ get_or c (4 * j + k) 0
      other j k m b = ended_slot c S i (releases_in c + 1 - mark_in c i) h (4 * j + k) (apart i j k m b)

      other_mark : (j : ℕ) → j ≢ i → mark_in (ended_after c i (releases_in c + 1 - mark_in c i)) j ≡ mark_in c j
      other_mark j m = ended_slot c S i (releases_in c + 1 - mark_in c i) h (4 * j) (λ k b q. m (omega arith))

      after : eqb (mark_in c i) 0 ≡ false → Consistent (ended_after c i (releases_in c + 1 - mark_in c i))
      after t =
          let d = releases_in c + 1 - mark_in c i in
          record {
            long = ended_long c S i d h;
            mark = λ j b. rw (ended_releases c S i d h) (elim (ℕ_discrete j i) [
              | yes q ↦ rw (q, ended_mark c S i d h) (omega arith)
              | no m ↦ rw (other_mark j m) (S.mark j b)
            ]);
            times = λ j b. elim (ℕ_discrete j i) [
              | yes q ↦ rw (q, ended_times c S i d h, ended_sum c S i d h) (let k = S.times i h in omega (arith, past))
              | no m ↦ rw (other j 1 m (omega arith), other j 2 m (omega arith)) (S.times j b)
            ];
            largest = λ j b. elim (ℕ_discrete j i) [
              | yes q ↦ rw (q, ended_largest c S i d h, ended_sum c S i d h) (let k = S.largest i h in omega arith)
              | no m ↦ rw (other j 3 m (omega arith), other j 2 m (omega arith)) (S.largest j b)
            ];
            sum = λ j b. rw (ended_releases c S i d h) (elim (ℕ_discrete j i) [
              | yes q ↦ rw (q, ended_mark c S i d h, ended_sum c S i d h) (let k = pend t in omega arith)
              | no m ↦ rw (other_mark j m, other j 2 m (omega arith)) (S.sum j b)
            ]);
          }
