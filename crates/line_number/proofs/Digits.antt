-- The digits of a number as bytes: that they are bytes, the number that they stand for, and the digits of the number after.
use Prim.Native.Nat.{ℕ, zero, suc, ◌+◌, ◌-◌, ◌*◌, ◌/◌, ◌%◌, ◌^◌, ◌≤◌, ◌<◌}
use mathlib.Core.Path.{◌≡◌, refl, sym, ◌∙◌}
use mathlib.Core.List.{List, [], ◌∷◌, ◌++◌, append_assoc}
use native.Mathlib.Omega.{arith}
use native.Mathlib.Nat.{add-mul, mul_assoc, pow-succ', suc-mul}
use lib.Dec.{ltb}
use lib.ListN.{length, length-replicate, replicate}
use borrow.Author.Tests.{ltb-false, ltb-true}
use Rattle.lists.proofs.Tests.{at_test, by_test}
use Rattle.event.specs.BigEndian.{number_of}
use Rattle.event.specs.Typed.{AreBytes}
use Rattle.event.proofs.Numbers.{number_append}
use Rattle.printout.specs.Print.{decimal, decimal_in}
use Rattle.line_number.specs.Numbered.{word_bytes}
use Rattle.number_text.proofs.Decimal.{decimal_more, last_length, more_length}

-- ---- all are bytes
one_more : (b : ℕ) (bs : List ℕ) → b < 256 → AreBytes bs → AreBytes (b ∷ bs)
one_more b bs h f zero = h
one_more b bs h f (suc k) = f k

zeros : (k : ℕ) → AreBytes (replicate k 0)
zeros zero j = omega arith
zeros (suc k) j = one_more 0 (replicate k 0) (omega arith) (zeros k) j

digits_in : (k n : ℕ) (bs : List ℕ) → AreBytes bs → AreBytes (decimal_in k n ++ bs)
unfolding decimal_in
digits_in zero n bs f = one_more (48 + n % 10) bs (omega arith) f
digits_in (suc k) n bs f =
    at_test (λ (text : List ℕ). AreBytes (text ++ bs)) (ltb n 10) ((48 + n) ∷ []) _
    (λ t. one_more (48 + n) bs (omega (arith, ltb-true n 10 t)) f)
    (λ t. rw (append_assoc (decimal_in k (n / 10)) ((48 + n % 10) ∷ []) bs) (digits_in k (n / 10) ((48 + n % 10) ∷ bs) last))
  where
    last : AreBytes ((48 + n % 10) ∷ bs)
    last = one_more (48 + n % 10) bs (omega arith) f

pub are_bytes : (n width : ℕ) → AreBytes (word_bytes n width)
are_bytes n width =
    let k = 8 - width in
    digits_in 20 n (32 ∷ replicate k 0) (one_more 32 (replicate k 0) (omega arith) (zeros k))

-- ---- the number that they stand for
no_number : (k : ℕ) → number_of (replicate k 0) ≡ 0
unfolding number_of
no_number zero = refl
no_number (suc k) = omega (arith, no_number k)

pub number_is : (n width : ℕ) → number_of (word_bytes n width) ≡ (number_of (decimal n) * 256 + 32) * 256 ^ (8 - width)
unfolding number_of
number_is n width =
    let k : ℕ = 8 - width in
    let zero-bytes : List ℕ = replicate k 0 in
    let long : length zero-bytes ≡ k = simp length-replicate in
    let d = number_of (decimal n) in
    let r = 256 ^ k in
    number_append (decimal n) (32 ∷ zero-bytes)
    ∙ rw (long, pow-succ' 256 k, no_number k) (omega (arith, add-mul (d * 256) 32 r, mul_assoc d 256 r))

-- ---- a number of two digits or more is at least 10
pub tens : (n : ℕ) → 2 ≤ length (decimal n) → 10 ≤ n
tens n h = by_test (ltb n 10) (λ t. absurd (omega (arith, last_length n (ltb-true n 10 t)))) (λ f. ltb-false n 10 f)

-- ---- the number after differs in the last digit alone, where its tenth is the same
module _ (n : ℕ) (some : 10 ≤ n) (few : n + 1 < 18446744073709551616) (same : (n + 1) / 10 ≡ n / 10) where
  digits_now : (ys : List ℕ) → decimal n ++ ys ≡ decimal (n / 10) ++ (48 + n % 10) ∷ ys
  digits_now ys = rw (decimal_more n some (omega arith), append_assoc (decimal (n / 10)) ((48 + n % 10) ∷ []) ys)

  digits_next : (ys : List ℕ) → decimal (n + 1) ++ ys ≡ decimal (n / 10) ++ (48 + n % 10 + 1) ∷ ys
  digits_next ys =
      let more : 10 ≤ n + 1 = omega arith in
      let last : 48 + (n + 1) % 10 ≡ 48 + n % 10 + 1 = omega arith in
      rw (decimal_more (n + 1) more few, same, last, append_assoc (decimal (n / 10)) ((48 + n % 10 + 1) ∷ []) ys)

  pub length_next : length (decimal (n + 1)) ≡ length (decimal n)
  length_next = rw same at (more_length (n + 1) (omega arith) few) ∙ sym (more_length n some (omega arith))

  pub number_next : (ys : List ℕ) → number_of (decimal (n + 1) ++ ys) ≡ number_of (decimal n ++ ys) + 256 ^ length ys
  unfolding number_of
  number_next ys =
      let a = number_append (decimal (n / 10)) ((48 + n % 10 + 1) ∷ ys) in
      let b = number_append (decimal (n / 10)) ((48 + n % 10) ∷ ys) in
      rw (digits_next ys, digits_now ys) (omega (arith, a, b, suc-mul (48 + n % 10) (256 ^ length ys)))
