-- The regions of lanes whose places are marked one after the other: none is marked twice where they are apart.
use Prim.Native.Nat.{ℕ, ◌+◌, ◌/◌, ◌%◌, ◌^◌, ◌≤◌, ◌<◌, max}
use mathlib.Core.Path.{◌≡◌, refl, sym, ◌∙◌}
use mathlib.Core.Logic.{◌⊎◌, inl, inr, ⊎_elim}
use mathlib.Core.Bool.{Bool, true, false, and_assoc, ◌&&◌, ◌||◌}
use mathlib.Core.List.{List, [], ◌∷◌}
use native.Mathlib.Nat.{zero-div}
use native.Mathlib.Omega.{arith}
use lib.ListN.{drop, get_or, length, replicate}
use lib.Dec.{leb}
use borrow.Author.Tests.{leb-true}
use Rattle.lists.specs.Lists.{all_pass, pairwise, some_pass}
use Rattle.lists.proofs.Loops.{all_drop, drop_end}
use Rattle.lists.proofs.Maps.{all_true}
use Rattle.lists.proofs.Parts.{below_or_not, drop_more}
use Rattle.lists.proofs.Tails.{get_d_tail}
use Rattle.lists.proofs.Tests.{and_both, and_left, and_right, both, by_test, implies_from, implies_use, neither_left, neither_right, same_test}
use Rattle.limits.specs.Limits.{most_pointer}
use Rattle.line.specs.Line.{idle_lane, is_busy, left_in, on, place_in}
use Rattle.line.specs.Sound.{apart, apart_lanes, region_end}
use Rattle.line.specs.declared.Lane.{Lane}
use Rattle.line.specs.declared.Phase.{Phase}
use Rattle.line.proofs.Phases.{no_overlap}
use Rattle.lane_tests.specs.Places.{Marks, is_free, is_outside, region_free, region_within, regions_free}
use Rattle.lane_tests.proofs.Places.{all_at, all_for, either_true, true_either}

-- ---- one region
-- a lane that is not busy has no record left
idle_left : (x : Phase) → is_busy x ≡ false → left_in x ≡ 0
idle_left Phase.Idle e = refl
idle_left (Phase.Waiting p) e = refl
idle_left (Phase.Woken p v) e = refl
idle_left (Phase.Holding p v) e = refl
idle_left (Phase.BusyWriting left next) e = both refl e
idle_left (Phase.BusyReading left next) e = both refl e
idle_left (Phase.Gathered n) e = refl

left_busy : (x : Phase) → 0 < left_in x → is_busy x ≡ true
left_busy x h = by_test (is_busy x) (λ t. t) (λ f. let none = idle_left x f in absurd (omega arith))

module _ (x : Phase) (within : region_within x ≡ true) where
  busy_left : is_busy x ≡ true → 0 < left_in x
  busy_left t = leb-true 1 (left_in x) (and_left (leb 1 (left_in x)) (leb (region_end x) most_pointer) (implies_use (is_busy x) (leb 1 (left_in x) && leb (region_end x) most_pointer) within t))

  pub region_low : 0 < left_in x → region_end x ≤ most_pointer
  region_low h =
      leb-true (region_end x) most_pointer
      (and_right (leb 1 (left_in x)) (leb (region_end x) most_pointer) (implies_use (is_busy x) (leb 1 (left_in x) && leb (region_end x) most_pointer) within (left_busy x h)))

-- ---- two regions
-- all places of a region are outside another one: the one ends before the other starts
outside_apart : (a n b m : ℕ) → 0 < n → 0 < m → ((k : ℕ) → b ≤ k → k < b + m → (a + n ≤ k) ⊎ (k + 1 ≤ a)) → (a + n ≤ b) ⊎ (b + m ≤ a)
outside_apart a n b m some more out =
    ⊎_elim
    (λ t. ⊎_elim
    (λ u. absurd (⊎_elim (λ v. omega arith) (λ v. omega arith) (out (max a b) (omega arith) (omega arith))))
    (λ u. inr u)
    (below_or_not a (b + m)))
    (λ t. inl t)
    (below_or_not b (a + n))

module _ (x y : Phase) (before after : List ℕ) (x-within : region_within x ≡ true) (y-within : region_within y ≡ true)
    (marked : (k : ℕ) → is_free after k ≡ (is_free before k && is_outside (place_in x).0 (region_end x) k)) where
  abbrev ends : Bool
  ends = leb (region_end x) (place_in y).0 || leb (region_end y) (place_in x).0

  free_there : region_free after y ≡ true → (k : ℕ) → (place_in y).0 ≤ k → k < region_end y → is_free before k && is_outside (place_in x).0 (region_end x) k ≡ true
  free_there e k h t = sym (marked k) ∙ all_at (is_free after) (place_in y).0 (left_in y) e k h t

  free_apart : region_free after y ≡ true → is_busy x && is_busy y ≡ true → ends ≡ true
  free_apart e t =
      either_true (region_end x) (place_in y).0 (region_end y) (place_in x).0
      (outside_apart (place_in x).0 (left_in x) (place_in y).0 (left_in y) (busy_left x x-within (and_left (is_busy x) (is_busy y) t)) (busy_left y y-within (and_right (is_busy x) (is_busy y) t))
      (λ k h u. true_either (region_end x) k (k + 1) (place_in x).0 (and_right (is_free before k) (is_outside (place_in x).0 (region_end x) k) (free_there e k h u))))

  apart_free : apart x y ≡ true → (k : ℕ) → (place_in y).0 ≤ k → k < region_end y → is_outside (place_in x).0 (region_end x) k ≡ true
  apart_free e k h t =
      either_true (region_end x) k (k + 1) (place_in x).0
      (⊎_elim
      (λ some. let busy : is_busy x && is_busy y ≡ true = and_both (is_busy x) (is_busy y) (left_busy x some) (left_busy y (omega arith)) in
      ⊎_elim (λ u. inl (omega arith)) (λ u. inr (omega arith)) (true_either (region_end x) (place_in y).0 (region_end y) (place_in x).0 (implies_use (is_busy x && is_busy y) ends e busy)))
      (λ none. ⊎_elim (λ u. inr (omega arith)) (λ u. inl (omega arith)) (below_or_not k (place_in x).0))
      (below_or_not 0 (left_in x)))

  -- after a region is marked another one is free where it was and is apart from it
  region_after : region_free after y ≡ (region_free before y && apart x y)
  region_after =
      same_test (region_free after y) (region_free before y && apart x y)
      (λ e. and_both (region_free before y) (apart x y)
      (all_for (is_free before) (place_in y).0 (left_in y) (λ k h t. and_left (is_free before k) (is_outside (place_in x).0 (region_end x) k) (free_there e k h t)))
      (implies_from (is_busy x && is_busy y) ends (free_apart e)))
      (λ e. all_for (is_free after) (place_in y).0 (left_in y) (λ k h t.
      marked k ∙ and_both (is_free before k) (is_outside (place_in x).0 (region_end x) k)
      (all_at (is_free before) (place_in y).0 (left_in y) (and_left (region_free before y) (apart x y) e) k h t)
      (apart_free (and_right (region_free before y) (apart x y) e) k h t)))

-- ---- the regions of all lanes
four : (a b c d : Bool) → (a && b) && (c && d) ≡ (a && c) && (b && d)
four true true c d = refl
four true false true d = refl
four true false false d = refl
four false b c d = refl

module _ (x : Phase) (before after : List ℕ) (x-within : region_within x ≡ true) (marked : (k : ℕ) → is_free after k ≡ (is_free before k && is_outside (place_in x).0 (region_end x) k)) where
  regions_after : (ls : List Lane) → all_pass (on region_within) ls ≡ true → all_pass (on (region_free after)) ls ≡ (all_pass (on (region_free before)) ls && all_pass (on (apart x)) ls)
  regions_after [] e = refl
  regions_after (l ∷ ls) e =
      let here = region_after x l.phase before after x-within (and_left (region_within l.phase) (all_pass (on region_within) ls) e) marked in
      let more = regions_after ls (and_right (region_within l.phase) (all_pass (on region_within) ls) e) in
      rw (here, more) (four (region_free before l.phase) (apart x l.phase) (all_pass (on (region_free before)) ls) (all_pass (on (apart x)) ls))

-- no word is marked
pub none_marked : (m : ℕ) (ls : List Lane) → regions_free (replicate m 0) ls ≡ pairwise apart_lanes ls
none_marked m ls = rw (all_true (on (region_free (replicate m 0))) (λ l. all_for (is_free (replicate m 0)) (place_in l.phase).0 (left_in l.phase) (λ k h t. free k)) ls)
  where
    free : (k : ℕ) → is_free (replicate m 0) k ≡ true
    free k = rw (get_d_tail {A = ℕ} 0 m [] (k / 64), zero-div (2 ^ (k % 64)))

-- no lane is busy
pub none_busy : (ls : List Lane) → some_pass (on is_busy) ls ≡ false → pairwise apart_lanes ls ≡ true
none_busy [] e = refl
none_busy (l ∷ ls) e =
    and_both (all_pass (on (apart l.phase)) ls) (pairwise apart_lanes ls)
    (all_true (on (apart l.phase)) (λ y. no_overlap l.phase y.phase (neither_left (is_busy l.phase) (some_pass (on is_busy) ls) e)) ls)
    (none_busy ls (neither_right (is_busy l.phase) (some_pass (on is_busy) ls) e))

-- ---- the loop over the lanes
module _ (words : List ℕ) (ls : List Lane) (i : ℕ) where
  abbrev phase : Phase
  phase = (get_or ls i idle_lane).phase

  pub regions_end : length ls ≤ i → regions_free words (drop i ls) ≡ true
  regions_end h = rw (drop_end ls i h)

  pub regions_stop : i < length ls → region_free words phase ≡ false → regions_free words (drop i ls) ≡ false
  regions_stop h e = rw (drop_more ls i idle_lane h, e)

  pub regions_more : (after : List ℕ) → i < length ls → all_pass (on region_within) ls ≡ true → Marks words after (place_in phase).0 (left_in phase) true → regions_free words (drop i ls) ≡ regions_free after (drop (i + 1) ls)
  regions_more after h within marks =
      let rest = drop (i + 1) ls in
      let left = all_drop (on region_within) i ls within in
      let now : all_pass (on region_within) (get_or ls i idle_lane ∷ rest) ≡ true = rw (drop_more ls i idle_lane h) at left in
      let others = regions_after phase words after (and_left (region_within phase) (all_pass (on region_within) rest) now) (marks.marked refl) rest (and_right (region_within phase) (all_pass (on region_within) rest) now) in
      rw (drop_more ls i idle_lane h, ← marks.told, others) (sym (and_assoc (all_pass (on (region_free words)) rest) (all_pass (on (apart phase)) rest) (pairwise apart_lanes rest)))
