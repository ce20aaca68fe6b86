-- The bits of a word: those of a mask, `count` bits from bit `low` upwards, and of a word joined with it; the test of a word by a mask.
use Prim.Native.Nat.{ℕ, zero, suc, ◌+◌, ◌-◌, ◌*◌, ◌/◌, ◌%◌, ◌^◌, ◌≤◌, ◌<◌, max}
use mathlib.Core.Path.{◌≡◌, sym, ◌∙◌}
use mathlib.Core.Logic.{⊎_elim}
use mathlib.Core.Bool.{◌&&◌}
use native.Mathlib.Nat.{div-eq_of_lt, mod-one, mul_assoc, mul-mod_left, pow-suc}
use native.Mathlib.Omega.{arith}
use lib.Arith.{digits_mod}
use lib.Bits.{and_high, bit_and, bit_or, or_shr, or_step}
use lib.Dec.{eqb}
use lib.Pow.{high, high_ones, mod-pow-add, ones_lt, ones_split, pow-add, pow_mono, pow_pos, shl_exact, shl-shr, shr-shr}
use borrow.Author.Tests.{eq-eqb, eqb-true, le-leb, lt-leb, ne_eqb}
use Rattle.lists.proofs.Parts.{below_or_not}
use Rattle.lists.proofs.Tests.{and_both, and_left, and_right, same_test}
use Rattle.lane_tests.specs.Places.{all_from, is_clear, is_outside, mask_of}

-- a number that is 0 where two others are
zero_both : (n x y : ℕ) → (n ≡ 0 → x ≡ 0) → (n ≡ 0 → y ≡ 0) → (x ≡ 0 → y ≡ 0 → n ≡ 0) → eqb n 0 ≡ (eqb x 0 && eqb y 0)
zero_both n x y f g h =
    same_test (eqb n 0) (eqb x 0 && eqb y 0)
    (λ t. let z = eqb-true n 0 t in and_both (eqb x 0) (eqb y 0) (eq-eqb x 0 (f z)) (eq-eqb y 0 (g z)))
    (λ t. eq-eqb n 0 (h (eqb-true x 0 (and_left (eqb x 0) (eqb y 0) t)) (eqb-true y 0 (and_right (eqb x 0) (eqb y 0) t))))

-- ---- a mask, and its bits
-- as many ones as there is room for, shifted down and up again
mask_ones : (count rest : ℕ) → (2 ^ (count + rest) - 1) / 2 ^ rest ≡ 2 ^ count - 1
mask_ones count rest = rw (ones_split count rest) (high (2 ^ count - 1) rest (ones_lt rest))

pub mask_shifted : (width low count : ℕ) → low + count ≤ width → (2 ^ width - 1) / 2 ^ (width - count) * 2 ^ low % 2 ^ width ≡ mask_of low count
mask_shifted width low count h =
    let parts : count + (width - count) ≡ width = omega arith in
    rw (rw parts at (mask_ones count (width - count)), shl_exact count low width (ones_lt count) (omega arith)) (sym (high_ones count low))

shifted_even : (count d b : ℕ) → mask_of (suc d + b) count / 2 ^ b % 2 ≡ 0
shifted_even count d b =
    let ones = 2 ^ count - 1 in
    let shifted : mask_of (suc d + b) count ≡ ones * 2 ^ d * 2 * 2 ^ b =
    high_ones count (suc d + b) ∙ rw (pow-add 2 (suc d) b, pow-suc 2 d, ← mul_assoc ones (2 ^ d * 2) (2 ^ b), ← mul_assoc ones (2 ^ d) 2) in
    rw (shifted, shl-shr (ones * 2 ^ d * 2) b) (mul-mod_left (ones * 2 ^ d) 2)

below_mask : (low count b : ℕ) → b < low → mask_of low count / 2 ^ b % 2 ≡ 0
below_mask low count b h = let e : low ≡ suc (low - suc b) + b = omega arith in rw e (shifted_even count (low - suc b) b)

odd_ones : (n : ℕ) → (2 ^ suc n - 1) % 2 ≡ 1
odd_ones n = let p = pow_pos n in rw (pow-suc 2 n) (omega arith)

in_mask : (low count b : ℕ) → low ≤ b → b < low + count → mask_of low count / 2 ^ b % 2 ≡ 1
in_mask low count b h k =
    let d = b - low in
    let n = count - suc d in
    let e : b ≡ low + d = omega arith in
    let c : count ≡ suc n + d = omega arith in
    rw (high_ones count low, e, ← shr-shr ((2 ^ count - 1) * 2 ^ low) low d, shl-shr (2 ^ count - 1) low, c, ones_split (suc n) d, high (2 ^ suc n - 1) d (ones_lt d))
    (odd_ones n)

above_mask : (low count b : ℕ) → low + count ≤ b → mask_of low count / 2 ^ b % 2 ≡ 0
above_mask low count b h =
    let p = pow_pos low in
    let fits : count + low ≤ b = omega arith in
    let q = pow_mono fits in
    let r = pow_pos (count + low) in
    let small : mask_of low count < 2 ^ b = omega arith in
    rw (div-eq_of_lt small)

-- the bits of a mask are 1 where they are its own
pub mask_bit : (low count b : ℕ) → is_clear (mask_of low count) b ≡ is_outside low (low + count) b
mask_bit low count b =
    ⊎_elim
    (λ t. let most : b < low + count = omega arith in let less : b + 1 ≤ low = omega arith in rw (below_mask low count b t, lt-leb (low + count) b most, le-leb (b + 1) low less))
    (λ t. ⊎_elim
    (λ u. let more : low < b + 1 = omega arith in rw (in_mask low count b t u, lt-leb (low + count) b u, lt-leb (b + 1) low more))
    (λ u. rw (above_mask low count b u, le-leb (low + count) b u))
    (below_or_not b (low + count)))
    (below_or_not b low)

-- ---- a word joined with another
max_clear : (x y : ℕ) → eqb (max x y) 0 ≡ (eqb x 0 && eqb y 0)
max_clear x y = zero_both (max x y) x y (λ z. omega arith) (λ z. omega arith) (λ z o. omega arith)

or_digit : (a b : ℕ) → bit_or a b % 2 ≡ max (a % 2) (b % 2)
or_digit a b =
    rw (or_step a b) (digits_mod (bit_or (a / 2) (b / 2)) (omega arith))

pub or_bit : (v w b : ℕ) → is_clear (bit_or v w) b ≡ (is_clear v b && is_clear w b)
or_bit v w b = rw (or_shr v w b, or_digit (v / 2 ^ b) (w / 2 ^ b)) (max_clear (v / 2 ^ b % 2) (w / 2 ^ b % 2))

-- ---- the test of a word by a mask
digits_clear : (h l : ℕ) → eqb (h * 2 + l) 0 ≡ (eqb l 0 && eqb h 0)
digits_clear h l = zero_both (h * 2 + l) l h (λ z. omega arith) (λ z. omega arith) (λ z o. omega arith)

field_clear : (w low count : ℕ) → eqb (w / 2 ^ low % 2 ^ count) 0 ≡ all_from (is_clear w) low count
unfolding all_from
field_clear w low zero = rw (mod-one (w / 2 ^ low))
field_clear w low (suc count) =
    let one : suc count ≡ count + 1 = omega arith in
    rw (one, mod-pow-add (w / 2 ^ low) count 1, shr-shr w low 1) (digits_clear (w / 2 ^ (low + 1) % 2 ^ count) (w / 2 ^ low % 2) ∙ rw (field_clear w (low + 1) count))

times_clear : (n p : ℕ) → 0 < p → eqb (n * p) 0 ≡ eqb n 0
times_clear zero p h = let e : 0 * p ≡ 0 = omega arith in rw e
times_clear (suc n) p h = ne_eqb (suc n * p) 0 (λ e. omega arith) ∙ sym (ne_eqb (suc n) 0 (λ e. omega arith))

pub and_mask : (w low count : ℕ) → eqb (bit_and w (mask_of low count)) 0 ≡ all_from (is_clear w) low count
and_mask w low count = rw (and_high w count low) (times_clear (w / 2 ^ low % 2 ^ count) (2 ^ low) (pow_pos low) ∙ field_clear w low count)
