-- A line's number with its bytes: made of the digits, counted up, and that its word fits.
use Prim.Native.Nat.{ℕ, suc, ◌+◌, ◌-◌, ◌*◌, ◌/◌, ◌%◌, ◌^◌, ◌≤◌, ◌<◌}
use mathlib.Core.Path.{◌≡◌, refl, sym, subst, ap, ◌∙◌}
use mathlib.Core.Logic.{inl, inr, ⊎_elim}
use mathlib.Core.List.{List, ◌∷◌}
use native.Mathlib.Omega.{arith}
use native.Mathlib.Nat.{le-mul_of_pos_right, pow-le-pow_right, pow-suc}
use lib.ListN.{length, length-append, length-replicate, replicate}
use Rattle.event.specs.BigEndian.{number_of}
use Rattle.event.proofs.Numbers.{number_below, power_positive}
use Rattle.printout.specs.Print.{decimal}
use Rattle.number_text.proofs.Decimal.{decimal_five, decimal_four, decimal_three, decimal_two, two_digits_lem}
use Rattle.line_number.specs.Numbered.{InBytes, InDigits, Keeps, number_in, word_bytes}
use Rattle.line_number.specs.declared.LineNumber.{LineNumber}
use Rattle.line_number.proofs.Digits.{are_bytes, length_next, number_is, number_next, tens}

-- ---- a word of eight bytes
pub eight : (n width : ℕ) → width ≡ length (decimal n) + 1 → width ≤ 8 → length (word_bytes n width) ≡ 8
eight n width w most = simp (length-append, length-replicate) (omega arith)

word_below : (n width : ℕ) → width ≡ length (decimal n) + 1 → width ≤ 8 → number_of (word_bytes n width) < 18446744073709551616
word_below n width w most = rw (eight n width w most) at (number_below (word_bytes n width) (are_bytes n width))

pub keeps_below : {n : ℕ} {own : LineNumber} → Keeps n own → own.word < 18446744073709551616
keeps_below {n} {own} k = ⊎_elim (λ b. omega (arith, b.word)) (λ b. rw b.word (word_below n own.width b.width b.most)) k.bytes

-- ---- made of the digits: what is computed of them fits
pub record Fits (digits blank : ℕ) : Type 0 where
  pub text : digits * 256 + 32 < 18446744073709551616
  pub word : (digits * 256 + 32) * blank < 18446744073709551616
  pub unit : blank * 256 < 18446744073709551616

pub digits_fit : {n digits width blank : ℕ} → InDigits n digits width blank → Fits digits blank
digits_fit {n} {digits} {width} {blank} i =
    let some : 0 < blank = rw i.place (power_positive (8 - width)) in
    let word : (digits * 256 + 32) * blank < 18446744073709551616 =
    rw (i.stands, i.place, ← number_is n width) (word_below n width i.counts i.most) in
    let base : 0 < 256 = omega arith in
    let five : 8 - width ≤ 5 = omega (arith, i.least) in
    let few : 256 ^ (8 - width) ≤ 256 ^ 5 = pow-le-pow_right base five in
    record {
      text = omega (arith, le-mul_of_pos_right (digits * 256 + 32) some);
      word = word;
      unit = rw i.place (omega arith);
    }

pub digits_kept : {n digits width blank left : ℕ} → InDigits n digits width blank → left ≡ 10 - n % 10
    → Keeps n (record { ten = n + left; word = (digits * 256 + 32) * blank; width = width; unit = blank * 256; left = left })
digits_kept {n} {digits} {width} {blank} {left} i e =
    let more : 9 - width ≡ suc (8 - width) = omega (arith, i.most) in
    record {
      number = refl;
      left = e;
      bytes = inr (record {
        width = i.counts;
        least = i.least;
        most = i.most;
        word = rw (i.stands, i.place) (sym (number_is n width));
        unit = rw (i.place, more) (sym (pow-suc 256 (8 - width)));
      });
    }

-- ---- the number after, where that differs in the last digit alone
abbrev pub counted_up : LineNumber → LineNumber
counted_up own = record { ten = own.ten; word = own.word + own.unit; width = own.width; unit = own.unit; left = own.left - 1 }

next_bytes : (n : ℕ) (own : LineNumber) → n + 1 < 18446744073709551616 → (n + 1) / 10 ≡ n / 10 → InBytes n own → InBytes (n + 1) (counted_up own)
next_bytes n own few same b =
    let some : 10 ≤ n = tens n (omega (arith, b.width, b.least)) in
    let rest : List ℕ = 32 ∷ replicate (8 - own.width) 0 in
    let long : length rest ≡ 9 - own.width = simp length-replicate (omega (arith, b.most)) in
    record {
      width = b.width ∙ ap (λ (k : ℕ). k + 1) (sym (length_next n some few same));
      least = b.least;
      most = b.most;
      word = rw (b.word, b.unit, ← long) (sym (number_next n some few same rest));
      unit = b.unit;
    }

pub keeps_next : {n : ℕ} {own : LineNumber} → Keeps n own → n + 1 < 18446744073709551616 → (own.left ≡ 1 → ⊥) → Keeps (n + 1) (counted_up own)
keeps_next {n} {own} k few more =
    let same : (n + 1) / 10 ≡ n / 10 = omega (arith, k.left) in
    record {
      number = omega (arith, k.number, k.left);
      left = omega (arith, k.left);
      bytes =
          ⊎_elim (λ b. inl (record { word = omega (arith, b.word, b.unit); width = b.width; unit = b.unit }))
          (λ b. inr (next_bytes n own few same b)) k.bytes;
    }

pub keeps_counted : (own : LineNumber) → Keeps (number_in own) own → number_in own + 11 < 18446744073709551616 → (own.left ≡ 1 → ⊥) → Keeps (number_in own + 1) (counted_up own)
keeps_counted own k few more = keeps_next k (omega (arith, few)) more

pub counted_fits : (own : LineNumber) → Keeps (number_in own) own → number_in own + 11 < 18446744073709551616 → (own.left ≡ 1 → ⊥) → own.word + own.unit < 18446744073709551616
counted_fits own k few more = keeps_below (keeps_counted own k few more)

-- and where it differs in others too, it is the one at which the bytes are made anew
pub ten_next : {n : ℕ} {own : LineNumber} → Keeps n own → own.left ≡ 1 → own.ten ≡ n + 1
ten_next k e = omega (arith, k.number)

-- for a caller that knows the number: what the functions require
pub keeps_number : {n : ℕ} {own : LineNumber} → Keeps n own → number_in own ≡ n
keeps_number k = omega (arith, k.number)

pub keeps_own : {n : ℕ} {own : LineNumber} → Keeps n own → Keeps (number_in own) own
keeps_own {n} {own} k = subst (λ (m : ℕ). Keeps m own) (sym (keeps_number k)) k

-- ---- the digits of numbers of two to five, as the code computes them
pub two_digits : (n p : ℕ) → 10 ≤ n → n < 100 → p ≡ number_of (two_digits_lem n) → InDigits n p 3 1099511627776
two_digits n p some few e =
    let d = decimal_two n some few in
    record { stands = rw (d, e); counts = rw d; least = omega arith; most = omega arith; place = refl }

pub three_digits : (n p : ℕ) → 100 ≤ n → n < 1000 → p ≡ number_of (two_digits_lem (n % 100)) → InDigits n ((48 + n / 100) * 65536 + p) 4 4294967296
unfolding number_of
three_digits n p some few e =
    let d = decimal_three n some few in
    record { stands = rw (d, e) (omega arith); counts = rw d; least = omega arith; most = omega arith; place = refl }

pub four_digits : (n p q : ℕ) → 1000 ≤ n → n < 10000 → p ≡ number_of (two_digits_lem (n / 100)) → q ≡ number_of (two_digits_lem (n % 100))
    → InDigits n (p * 65536 + q) 5 16777216
unfolding number_of
four_digits n p q some few e f =
    let d = decimal_four n some few in
    record { stands = rw (d, e, f) (omega arith); counts = rw d; least = omega arith; most = omega arith; place = refl }

pub five_digits : (n p q : ℕ) → 10000 ≤ n → n < 100000 → p ≡ number_of (two_digits_lem (n / 100 % 100)) → q ≡ number_of (two_digits_lem (n % 100))
    → InDigits n (((48 + n / 10000) * 65536 + p) * 65536 + q) 6 65536
unfolding number_of
five_digits n p q some few e f =
    let d = decimal_five n some few in
    record { stands = rw (d, e, f) (omega arith); counts = rw d; least = omega arith; most = omega arith; place = refl }
