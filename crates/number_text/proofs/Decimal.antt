-- Numbers in decimal: the last digit and those before it, how many there are at most, and numbers of up to five digits.
use Prim.Native.Nat.{ℕ, zero, suc, ◌+◌, ◌*◌, ◌/◌, ◌%◌, ◌^◌, ◌≤◌, ◌<◌}
use mathlib.Core.Path.{◌≡◌, ◌∙◌, ap}
use mathlib.Core.List.{List, [], ◌∷◌, ◌++◌, append_assoc}
use native.Mathlib.Omega.{arith}
use native.Mathlib.Nat.{mod-eq_of_lt, pow-suc}
use lib.Dec.{ltb}
use lib.ListN.{length, length-append}
use borrow.Author.Tests.{le-ltb, lt-ltb}
use Rattle.lists.proofs.Tests.{at_test}
use Rattle.printout.specs.Print.{decimal, decimal_in}

-- a number of k + 2 digits has k + 1 before the last
tenth : (k n : ℕ) → n < 10 ^ suc (suc k) → n / 10 < 10 ^ suc k
tenth k n h = let below : n < 10 ^ suc k * 10 = rw pow-suc at h in omega arith

-- more digits than a number has leave it as it is
enough : (k n : ℕ) → n < 10 ^ suc k → decimal_in (suc k) n ≡ decimal_in k n
unfolding decimal_in
enough zero n h =
    let below : n < 10 = omega arith in
    rw (lt-ltb n 10 below, mod-eq_of_lt below)
enough (suc k) n h = rw (enough k (n / 10) (tenth k n h))

more_in : (k n : ℕ) → 10 ≤ n → n < 10 ^ suc (suc k) → decimal_in (suc k) n ≡ decimal_in (suc k) (n / 10) ++ ((48 + n % 10) ∷ [])
unfolding decimal_in
more_in k n some below = rw (le-ltb n 10 some, enough k (n / 10) (tenth k n below))

last_in : (k n : ℕ) → n < 10 → decimal_in (suc k) n ≡ (48 + n) ∷ []
unfolding decimal_in
last_in k n below = rw (lt-ltb n 10 below)

pub decimal_last : (n : ℕ) → n < 10 → decimal n ≡ (48 + n) ∷ []
decimal_last n below = last_in 19 n below

-- 21 digits are more than a number of 64 bits has
pub decimal_more : (n : ℕ) → 10 ≤ n → n < 18446744073709551616 → decimal n ≡ decimal (n / 10) ++ ((48 + n % 10) ∷ [])
decimal_more n some below = more_in 19 n some (omega arith)

-- how many digits: one, or one more than before the last
pub last_length : (n : ℕ) → n < 10 → length (decimal n) ≡ 1
last_length n below = ap length (decimal_last n below)

pub more_length : (n : ℕ) → 10 ≤ n → n < 18446744073709551616 → length (decimal n) ≡ length (decimal (n / 10)) + 1
more_length n some below = ap length (decimal_more n some below) ∙ length-append (decimal (n / 10)) ((48 + n % 10) ∷ [])

-- a number below 10 ^ j has at most j digits
few_in : (j k n : ℕ) → n < 10 ^ suc j → length (decimal_in k n) ≤ suc j
unfolding decimal_in
few_in j zero n h = omega arith
few_in zero (suc k) n h =
    let below : n < 10 = omega arith in
    rw (lt-ltb n 10 below) (omega arith)
few_in (suc j) (suc k) n h =
    let ih = few_in j k (n / 10) (tenth j n h) in
    at_test (λ (text : List ℕ). length text ≤ suc (suc j)) (ltb n 10) _ _ (λ t. omega arith) (λ f. simp length-append (omega arith))

pub few_digits : (j n : ℕ) → n < 10 ^ suc j → length (decimal n) ≤ suc j
few_digits j n h = few_in j 20 n h

-- ---- numbers of up to five digits: one digit first where their count is odd, then two at a time
abbrev pub one_digit : ℕ → List ℕ
one_digit n = (48 + n) ∷ []

abbrev pub two_digits_lem : ℕ → List ℕ
two_digits_lem n = (48 + n / 10) ∷ (48 + n % 10) ∷ []

abbrev pub three_digits : ℕ → List ℕ
three_digits n = one_digit (n / 100) ++ two_digits_lem (n % 100)

abbrev pub four_digits : ℕ → List ℕ
four_digits n = two_digits_lem (n / 100) ++ two_digits_lem (n % 100)

abbrev pub five_digits : ℕ → List ℕ
five_digits n = (one_digit (n / 10000) ++ two_digits_lem (n / 100 % 100)) ++ two_digits_lem (n % 100)

-- the hundreds, and then the two last digits
decimal_hundreds : (n : ℕ) → 100 ≤ n → n < 18446744073709551616 → decimal n ≡ decimal (n / 100) ++ two_digits_lem (n % 100)
decimal_hundreds n some below =
    let tens : 10 ≤ n / 10 = omega arith in
    let front : n / 10 / 10 ≡ n / 100 = omega arith in
    let ten : n / 10 % 10 ≡ n % 100 / 10 = omega arith in
    let one : n % 10 ≡ n % 100 % 10 = omega arith in
    decimal_more n (omega arith) below
    ∙ rw (decimal_more (n / 10) tens (omega arith), front, ten, one, append_assoc (decimal (n / 100)))

pub decimal_two : (n : ℕ) → 10 ≤ n → n < 100 → decimal n ≡ two_digits_lem n
decimal_two n some below =
    let front : n / 10 < 10 = omega arith in
    decimal_more n some (omega arith) ∙ rw (decimal_last (n / 10) front)

pub decimal_three : (n : ℕ) → 100 ≤ n → n < 1000 → decimal n ≡ three_digits n
decimal_three n some below =
    let front : n / 100 < 10 = omega arith in
    decimal_hundreds n some (omega arith) ∙ rw (decimal_last (n / 100) front)

pub decimal_four : (n : ℕ) → 1000 ≤ n → n < 10000 → decimal n ≡ four_digits n
decimal_four n some below =
    let front : n / 100 < 100 = omega arith in
    let tens : 10 ≤ n / 100 = omega arith in
    decimal_hundreds n (omega arith) (omega arith) ∙ rw (decimal_two (n / 100) tens front)

pub decimal_five : (n : ℕ) → 10000 ≤ n → n < 100000 → decimal n ≡ five_digits n
decimal_five n some below =
    let front : n / 100 < 1000 = omega arith in
    let hundreds : 100 ≤ n / 100 = omega arith in
    let first : n / 100 / 100 ≡ n / 10000 = omega arith in
    decimal_hundreds n (omega arith) (omega arith) ∙ rw (decimal_three (n / 100) hundreds front, first)
