-- The counts of all lanes: how a change of one lane changes them, their bounds, and the tests of all lanes that they decide.
use Prim.Native.Nat.{ℕ, zero, suc, ◌+◌, ◌≤◌, ◌<◌}
use mathlib.Core.Path.{◌≡◌, refl, sym, ◌∙◌}
use mathlib.Core.Bool.{Bool, true, false, not, ◌&&◌, ◌||◌}
use mathlib.Core.List.{List, [], ◌∷◌}
use native.Mathlib.Omega.{arith}
use native.Mathlib.Nat.{not-suc-le-zero, le_of_suc-le-suc}
use lib.ListN.{get_or, length, set}
use lib.Dec.{eqb}
use borrow.Author.Tests.{eqb-false, eqb-true, eq-eqb, ne_eqb}
use Rattle.lists.specs.Lists.{all_pass, bit, count_pass, sum_of}
use Rattle.lists.proofs.Tests.{by_test}
use Rattle.lists.proofs.Counts.{count_set}
use Rattle.line.specs.Line.{count_in, idle_lane, is_gathered, is_idle, is_idle_or_gathered, lane, on}
use Rattle.line.specs.declared.Lane.{Lane}
use Rattle.line.specs.declared.Phase.{Phase}
use Rattle.line.proofs.Phases.{phase_kinds}
use Rattle.lane_tests.specs.Rules.{counts_of, not_idle}

bit_one : (b : Bool) → bit b ≤ 1
bit_one true = omega arith
bit_one false = omega arith

-- ---- sums and counts of any list
module _ {A : Type 0} where
  sum_set : (f : A → ℕ) (l : List A) (i : ℕ) (a d : A) → i < length l → sum_of f (set l i a) + f (get_or l i d) ≡ sum_of f l + f a
  sum_set f [] i a d h = absurd (not-suc-le-zero h)
  sum_set f (x ∷ xs) zero a d h = omega arith
  sum_set f (x ∷ xs) (suc i) a d h = let ih = sum_set f xs i a d (le_of_suc-le-suc h) in omega arith

  count_at : (p : A → Bool) (l : List A) (i : ℕ) (d : A) → i < length l → bit (p (get_or l i d)) ≤ count_pass p l
  count_at p [] i d h = absurd (not-suc-le-zero h)
  count_at p (x ∷ xs) zero d h = omega arith
  count_at p (x ∷ xs) (suc i) d h = let ih = count_at p xs i d (le_of_suc-le-suc h) in omega arith

  sum_at : (f : A → ℕ) (l : List A) (i : ℕ) (d : A) → i < length l → f (get_or l i d) ≤ sum_of f l
  sum_at f [] i d h = absurd (not-suc-le-zero h)
  sum_at f (x ∷ xs) zero d h = omega arith
  sum_at f (x ∷ xs) (suc i) d h = let ih = sum_at f xs i d (le_of_suc-le-suc h) in omega arith

  count_below : (p q : A → Bool) → ((x : A) → bit (p x) ≤ bit (q x)) → (l : List A) → count_pass p l ≤ count_pass q l
  count_below p q f [] = omega arith
  count_below p q f (x ∷ xs) = let h = f x in let ih = count_below p q f xs in omega arith

  count_most : (p : A → Bool) (l : List A) → count_pass p l ≤ length l
  count_most p [] = omega arith
  count_most p (x ∷ xs) = let h = bit_one (p x) in let ih = count_most p xs in omega arith

-- ---- one lane changed
module _ (ls : List Lane) (i : ℕ) (h : i < length ls) where
  pub active_set : (y : Phase) → (counts_of (set ls i (lane y))).active + bit (not_idle (get_or ls i idle_lane).phase) ≡ (counts_of ls).active + bit (not_idle y)
  active_set y = count_set (on not_idle) ls i (lane y) idle_lane h

  pub gathered_set : (y : Phase) → (counts_of (set ls i (lane y))).gathered + bit (is_gathered (get_or ls i idle_lane).phase) ≡ (counts_of ls).gathered + bit (is_gathered y)
  gathered_set y = count_set (on is_gathered) ls i (lane y) idle_lane h

  pub total_set : (y : Phase) → (counts_of (set ls i (lane y))).total + count_in (get_or ls i idle_lane).phase ≡ (counts_of ls).total + count_in y
  total_set y = sum_set (on count_in) ls i (lane y) idle_lane h

  -- a lane is counted: what it brought can be taken away
  pub active_has : bit (not_idle (get_or ls i idle_lane).phase) ≤ (counts_of ls).active
  active_has = count_at (on not_idle) ls i idle_lane h

  pub gathered_has : bit (is_gathered (get_or ls i idle_lane).phase) ≤ (counts_of ls).gathered
  gathered_has = count_at (on is_gathered) ls i idle_lane h

  pub total_has : count_in (get_or ls i idle_lane).phase ≤ (counts_of ls).total
  total_has = sum_at (on count_in) ls i idle_lane h

-- ---- bounds
pub active_most : (ls : List Lane) → (counts_of ls).active ≤ length ls
active_most ls = count_most (on not_idle) ls

pub gathered_most : (ls : List Lane) → (counts_of ls).gathered ≤ length ls
gathered_most ls = count_most (on is_gathered) ls

-- a gathered lane is not idle
other_kind : (i g : Bool) → bit i + bit g ≤ 1 → bit g ≤ bit (not i)
other_kind true g h = omega arith
other_kind false g h = bit_one g

gathered_not_idle : (x : Phase) → bit (is_gathered x) ≤ bit (not_idle x)
gathered_not_idle x = let h = phase_kinds x in other_kind (is_idle x) (is_gathered x) (omega arith)

pub gathered_active : (ls : List Lane) → (counts_of ls).gathered ≤ (counts_of ls).active
gathered_active ls = count_below (on is_gathered) (on not_idle) (λ x. gathered_not_idle x.phase) ls

-- where no lane is gathered there are no records
count_kind : (x : Phase) → bit (is_gathered x) ≡ 0 → count_in x ≡ 0
count_kind Phase.Idle z = refl
count_kind (Phase.Waiting p) z = refl
count_kind (Phase.Woken p v) z = refl
count_kind (Phase.Holding p v) z = refl
count_kind (Phase.BusyWriting left next) z = refl
count_kind (Phase.BusyReading left next) z = refl
count_kind (Phase.Gathered n) z = absurd (omega arith)

pub total_none : (ls : List Lane) → (counts_of ls).gathered ≡ 0 → (counts_of ls).total ≡ 0
total_none [] z = refl
total_none (x ∷ xs) z =
    let here = count_kind x.phase (omega arith) in
    let more = total_none xs (omega arith) in omega arith

-- ---- tests of all lanes
same_sums : (k a b n m : ℕ) → a ≡ k + n → b ≡ k + m → eqb n m ≡ eqb a b
same_sums k a b n m e f =
    by_test (eqb n m) (λ t. let h = eqb-true n m t in t ∙ sym (eq-eqb a b (omega arith))) (λ t. let h = eqb-false n m t in t ∙ sym (ne_eqb a b (λ z. h (omega arith))))

calm_more : (i g : Bool) → bit g ≤ bit (not i) → (a n : ℕ) → n ≤ a → (rest : Bool) → rest ≡ eqb a n → (i || g) && rest ≡ eqb (bit (not i) + a) (bit g + n)
calm_more true true h a n k rest e = absurd (omega arith)
calm_more true false h a n k rest e = e ∙ same_sums 0 (0 + a) (0 + n) a n refl refl
calm_more false true h a n k rest e = e ∙ same_sums 1 (1 + a) (1 + n) a n refl refl
calm_more false false h a n k rest e = sym (ne_eqb (1 + a) (0 + n) (λ z. omega arith))

idle_more : (i : Bool) (a : ℕ) (rest : Bool) → rest ≡ eqb a 0 → i && rest ≡ eqb (bit (not i) + a) 0
idle_more true a rest e = e ∙ same_sums 0 (0 + a) 0 a 0 refl refl
idle_more false a rest e = sym (ne_eqb (1 + a) 0 (λ z. omega arith))

pub calm_counts : (ls : List Lane) → all_pass (on is_idle_or_gathered) ls ≡ eqb (counts_of ls).active (counts_of ls).gathered
calm_counts [] = refl
calm_counts (x ∷ xs) = calm_more (is_idle x.phase) (is_gathered x.phase) (gathered_not_idle x.phase) (counts_of xs).active (counts_of xs).gathered (gathered_active xs) _ (calm_counts xs)

pub idle_counts : (ls : List Lane) → all_pass (on is_idle) ls ≡ eqb (counts_of ls).active 0
idle_counts [] = refl
idle_counts (x ∷ xs) = idle_more (is_idle x.phase) (counts_of xs).active _ (idle_counts xs)
