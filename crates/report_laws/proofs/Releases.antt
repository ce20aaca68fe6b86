-- What a wait is counted as, in the words of Wish 1: the accepted releases after the answer up to the one that sends the wake, that one included.
use Prim.Native.Nat.{ℕ, ◌+◌}
use mathlib.Core.Path.{◌≡◌, sym, ap}
use mathlib.Core.Bool.{true, false}
use mathlib.Core.List.{List, [], ◌∷◌, ◌++◌}
use Rattle.lists.specs.Lists.{bit, count_pass, some_pass}
use Rattle.lists.proofs.Tests.{by_test, clash, neither_left, neither_right}
use Rattle.trace.specs.Trace.{Entry, is_accepted, is_release, wakes}
use Rattle.report.specs.Growth.{ended_row, releases_to_wake, unended_row, wait_row}

-- a call that wakes a lane is an accepted release
pub waking_is_release : (i : ℕ) (e : Entry) → wakes i e ≡ true → is_release e ≡ true
waking_is_release i e w =
    by_test (is_accepted 0x04 e) (λ t. rw t)
    (λ f. by_test (is_accepted 0x09 e) (λ t. rw (f, t)) (λ u. let z : false ≡ true = rw (f, u) at w in clash (sym z)))

module _ (i : ℕ) (wake : Entry) (after : List Entry) (w : wakes i wake ≡ true) where
  pub releases_up_to_the_wake : (before : List Entry) → some_pass (wakes i) before ≡ false → releases_to_wake i (before ++ wake ∷ after) ≡ count_pass is_release (before ++ wake ∷ [])
  unfolding releases_to_wake
  releases_up_to_the_wake [] f = rw w
  releases_up_to_the_wake (e ∷ before) f =
      let ih = releases_up_to_the_wake before (neither_right (wakes i e) (some_pass (wakes i) before) f) in
      rw (neither_left (wakes i e) (some_pass (wakes i) before) f) (ap (λ (n : ℕ). bit (is_release e) + n) ih)

  woken_later : (before : List Entry) → some_pass (wakes i) (before ++ wake ∷ after) ≡ true
  woken_later [] = rw w
  woken_later (e ∷ before) = by_test (wakes i e) (λ t. rw t) (λ f. rw f (woken_later before))

  -- a wait that is told before these calls
  pub ended_wait_counts : (before : List Entry) → some_pass (wakes i) before ≡ false → wait_row i (before ++ wake ∷ after) ≡ ended_row (count_pass is_release (before ++ wake ∷ []))
  ended_wait_counts before f = rw (woken_later before) (ap ended_row (releases_up_to_the_wake before f))

pub unended_wait_counts : (i : ℕ) (later : List Entry) → some_pass (wakes i) later ≡ false → wait_row i later ≡ unended_row
unended_wait_counts i later f = rw f
