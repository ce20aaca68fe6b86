-- Numbers in hexadecimal: each digit by itself, the digits stored from the first on, and which numbers are digits.
use Prim.Native.Nat.{ℕ, zero, suc, ◌+◌, ◌-◌, ◌*◌, ◌/◌, ◌%◌, ◌^◌, ◌≤◌, ◌<◌}
use mathlib.Core.Path.{◌≡◌, refl, sym, ap, ◌∙◌}
use mathlib.Core.List.{List, [], ◌∷◌, ◌++◌}
use native.Mathlib.Omega.{arith}
use native.Mathlib.Nat.{div-add-mod', div-lt_iff_lt-mul, mul-add-div_right, mul_assoc, mul_comm}
use native.Mathlib.Nat.{dvd-mul_right, mod-eq_of_lt, mod-lt, mod-mod_of_dvd, pow-le-pow_right, pow-suc}
use lib.ListN.{length, set}
use Rattle.printout.specs.Print.{hex_digit, hex_in}
use Rattle.number_text.specs.Stored.{Stored}
use Rattle.number_text.proofs.Stores.{one_byte, then_byte}

pub hex_length : (width n : ℕ) → length (hex_in width n) ≡ width
unfolding hex_in
hex_length zero n = refl
hex_length (suc width) n = ap suc (hex_length width (n % 16 ^ width))

-- ---- a digit by itself: the number by the digit's unit, modulo 16
power_positive : (width : ℕ) → 0 < 16 ^ width
power_positive width =
    let some : 0 < 16 = omega arith in
    let from : 0 ≤ width = omega arith in
    let least : 16 ^ 0 ≤ 16 ^ width = pow-le-pow_right some from in
    omega arith

-- what stands above a digit does not change it
digit_alone : (n unit : ℕ) → 0 < unit → n % (unit * 16) / unit ≡ n / unit % 16
digit_alone n unit some =
    let above = n / (unit * 16) in
    let kept = n % (unit * 16) in
    let whole : above * 16 * unit + kept ≡ n = rw (mul_assoc, mul_comm 16 unit) (div-add-mod' n (unit * 16)) in
    let split = ap (λ (x : ℕ). x / unit) (sym whole) ∙ mul-add-div_right some (above * 16) kept in
    let units : 0 < unit * 16 = omega arith in
    let below : kept < 16 * unit = omega (arith, mod-lt n units) in
    let digit : kept / unit < 16 = (div-lt_iff_lt-mul some).1 below in
    omega arith

-- the digits of a number, each by itself
abbrev hex_digits : ℕ → ℕ → List ℕ
hex_digits zero n = []
hex_digits (suc width) n = hex_digit (n / 16 ^ width % 16) ∷ hex_digits width n

digits_alone : (width n : ℕ) → hex_in width (n % 16 ^ width) ≡ hex_digits width n
unfolding hex_in
digits_alone zero n = refl
digits_alone (suc width) n =
    let unit = 16 ^ width in
    let digit : n % 16 ^ suc width / unit ≡ n / unit % 16 = rw pow-suc (digit_alone n unit (power_positive width)) in
    let rest : n % 16 ^ suc width % unit ≡ n % unit = rw pow-suc (mod-mod_of_dvd unit n (dvd-mul_right unit 16)) in
    rw (digit, rest, digits_alone width n)

-- ---- 16 digits, stored from the first on
-- the first k of them
abbrev pub first_digits : ℕ → ℕ → List ℕ
first_digits zero n = []
first_digits (suc k) n = first_digits k n ++ (hex_digit (n / 16 ^ (15 - k) % 16) ∷ [])

pub hex_first : (n : ℕ) → n < 18446744073709551616 → hex_in 16 n ≡ first_digits 16 n
hex_first n small =
    let same : n % 16 ^ 16 ≡ n = mod-eq_of_lt small in
    rw same at (digits_alone 16 n)

pub first_stored : (before : List ℕ) (at n d : ℕ) → d ≡ hex_digit (n / 16 ^ 15 % 16) → Stored (first_digits 1 n) before at (set before at d) (at + 1)
first_stored before at n d same = rw same (one_byte before at (hex_digit (n / 16 ^ 15 % 16)))

pub next_stored : {before after : List ℕ} {at : ℕ} (n k d : ℕ) → Stored (first_digits k n) before at after (at + k)
    → d ≡ hex_digit (n / 16 ^ (15 - k) % 16) → Stored (first_digits (suc k) n) before at (set after (at + k) d) (at + suc k)
next_stored n k d stored same = rw same (then_byte k (hex_digit (n / 16 ^ (15 - k) % 16)) stored)

-- ---- which numbers are digits
pub digit_below : (n : ℕ) → n % 16 < 16
digit_below n = omega arith
