-- What a character is: a free one is no digit and opens no comment, and the digit of a number is read back as that number.
use Prim.Native.Nat.{ℕ, ◌+◌, ◌-◌, ◌/◌, ◌%◌, ◌<◌, ◌≤◌}
use mathlib.Core.Path.{◌≡◌, refl}
use mathlib.Core.Bool.{Bool, true, false, cond}
use mathlib.Core.List.{[], ◌∷◌}
use native.Mathlib.Omega.{arith}
use lib.Dec.{eqb, ltb}
use borrow.Author.Tests.{eqb-true, le-ltb, lt-ltb, ltb-false, ltb-true, ne_eqb}
use Rattle.std.proofs.Common.{Option, Some, None, ap}
use Rattle.lists.proofs.Tests.{at_test, by_test}
use Rattle.printout.specs.Print.{hex_digit, hex_in}
use Rattle.notation.specs.Notation.{digit_of, is_free}

pub same_both : (b : Bool) (n : ℕ) → cond b n n ≡ n
same_both true n = refl
same_both false n = refl

pub free_neither : (c : ℕ) → is_free c ≡ true → (eqb c 35 ≡ false) × (digit_of c ≡ None)
free_neither c free =
    by_test (eqb c 32) (λ t. rw (eqb-true c 32 t) (refl, refl))
    (λ a. by_test (eqb c 9) (λ t. rw (eqb-true c 9 t) (refl, refl))
    (λ b. by_test (eqb c 44) (λ t. rw (eqb-true c 44 t) (refl, refl))
    (λ d. by_test (eqb c 10) (λ t. rw (eqb-true c 10 t) (refl, refl))
    (λ e. let last : eqb c 13 ≡ true = rw (a, b, d, e) at free in rw (eqb-true c 13 last) (refl, refl)))))

-- a digit or none
digit_or_none : {X : Type 0} (o : Option ℕ) → (o ≡ None → X) → ((d : ℕ) → o ≡ Some d → X) → X
digit_or_none None none some = none refl
digit_or_none (Some d) none some = some d refl

pub by_digit : {X : Type 0} (c : ℕ) → (digit_of c ≡ None → X) → ((d : ℕ) → digit_of c ≡ Some d → X) → X
by_digit c none some = digit_or_none (digit_of c) none some

-- nothing is both none and some
pub none_some : {X : Type 0} (d : ℕ) → ◌≡◌ {A = Option ℕ} None (Some d) → X
none_some d e = let z : ◌≡◌ {A = ℕ} 0 1 = cc in absurd (omega arith)

pub digit_no_hash : (c d : ℕ) → digit_of c ≡ Some d → eqb c 35 ≡ false
digit_no_hash c d e = by_test (eqb c 35) (λ t. none_some d (rw (eqb-true c 35 t) at e)) (λ f. f)

abbrev Small : Option ℕ → Type 0
Small None = 0 < 16
Small (Some d) = d < 16

digit_most : (c : ℕ) → Small (digit_of c)
digit_most c =
    at_test Small (ltb c 48) _ _ (λ t. omega arith)
    (λ a. at_test Small (ltb c 58) _ _ (λ t. omega (arith, ltb-true c 58 t))
    (λ b. at_test Small (ltb c 65) _ _ (λ t. omega arith)
    (λ d. at_test Small (ltb c 71) _ _ (λ t. omega (arith, ltb-true c 71 t))
    (λ e. at_test Small (ltb c 97) _ _ (λ t. omega arith)
    (λ f. at_test Small (ltb c 103) _ _ (λ t. omega (arith, ltb-true c 103 t)) (λ g. omega arith))))))

pub digit_small : (c d : ℕ) → digit_of c ≡ Some d → d < 16
digit_small c d e = let small : Small (Some d) = rw e at (digit_most c) in small

-- a digit, neither free nor #
pub record Digit (c d : ℕ) : Type 0 where
  pub hash : eqb c 35 ≡ false
  pub free : is_free c ≡ false
  pub value : digit_of c ≡ Some d

no_free : (c : ℕ) → 45 < c → is_free c ≡ false
no_free c h =
    let a : c ≡ 32 → ⊥ = λ e. omega arith in
    let b : c ≡ 9 → ⊥ = λ e. omega arith in
    let d : c ≡ 44 → ⊥ = λ e. omega arith in
    let l : c ≡ 10 → ⊥ = λ e. omega arith in
    let r : c ≡ 13 → ⊥ = λ e. omega arith in
    rw (ne_eqb c 32 a, ne_eqb c 9 b, ne_eqb c 44 d, ne_eqb c 10 l, ne_eqb c 13 r)

no_hash : (c : ℕ) → 45 < c → eqb c 35 ≡ false
no_hash c h = ne_eqb c 35 (λ e. omega arith)

-- by the ranges of digits and small letters
decimal_value : (c : ℕ) → 48 ≤ c → c < 58 → (d : ℕ) → c ≡ 48 + d → digit_of c ≡ Some d
decimal_value c low high d e =
    let same : c - 48 ≡ d = omega arith in
    rw (le-ltb c 48 low, lt-ltb c 58 high) (ap (λ (n : ℕ). Some n) same)

letter_value : (c : ℕ) → 97 ≤ c → c < 103 → (d : ℕ) → c ≡ 87 + d → digit_of c ≡ Some d
letter_value c low high d e =
    let a : 48 ≤ c = omega arith in
    let b : 58 ≤ c = omega arith in
    let f : 65 ≤ c = omega arith in
    let g : 71 ≤ c = omega arith in
    let same : c - 87 ≡ d = omega arith in
    rw (le-ltb c 48 a, le-ltb c 58 b, le-ltb c 65 f, le-ltb c 71 g, le-ltb c 97 low, lt-ltb c 103 high) (ap (λ (n : ℕ). Some n) same)

pub hex_digit_lem : (d : ℕ) → d < 16 → Digit (hex_digit d) d
hex_digit_lem d h =
    by_test (ltb d 10)
    (λ t.
    let few : d < 10 = ltb-true d 10 t in
    rw t (record { hash = no_hash (48 + d) (omega arith); free = no_free (48 + d) (omega arith); value = decimal_value (48 + d) (omega arith) (omega arith) d refl }))
    (λ f.
    let many : 10 ≤ d = ltb-false d 10 f in
    rw f (record { hash = no_hash (87 + d) (omega arith); free = no_free (87 + d) (omega arith); value = letter_value (87 + d) (omega arith) (omega arith) d refl }))

-- a byte's two digits
pub two_digits : (b : ℕ) → hex_in 2 b ≡ hex_digit (b / 16) ∷ hex_digit (b % 16) ∷ []
unfolding hex_in
two_digits b = let one : b % 16 / 1 ≡ b % 16 = omega arith in rw one
