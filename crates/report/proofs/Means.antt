-- The mean of a row with its remainder, and rows whose ended waits took from 1 to m releases each.
use Prim.Native.Nat.{ℕ, ◌+◌, ◌*◌, ◌≤◌, ◌<◌}
use mathlib.Core.Path.{◌≡◌, sym}
use mathlib.Core.Logic.{◌≢◌}
use native.Mathlib.Omega.{arith}
use native.Mathlib.Nat.{add-mul, div-add-mod', mod-lt, mul_comm, mul-le-mul_right, one-mul, zero-mul}
use native.Mathlib.Decide.{dec_lt}
use borrow.Author.Tests.{ne_eqb}
use Rattle.report.specs.declared.Row.{Row}
use Rattle.report.specs.Rows.{empty_row, joined, mean_of, remainder_of}
use Rattle.report.specs.Growth.{ended_row, unended_row}

-- ---- the mean
pub mean_with_remainder : (times sum : ℕ) → times ≢ 0 → sum ≡ mean_of times sum * times + remainder_of times sum
mean_with_remainder times sum n = rw (ne_eqb times 0 n) (sym (div-add-mod' sum times))

pub remainder_below : (times sum : ℕ) → times ≢ 0 → remainder_of times sum < times
remainder_below times sum n = rw (ne_eqb times 0 n) (mod-lt sum (omega arith))

-- the mean of numbers from 1 to m, of which there are `times`, lies there too
pub mean_least : (times sum : ℕ) → times ≢ 0 → times ≤ sum → 1 ≤ mean_of times sum
mean_least times sum n low =
    elim (dec_lt 0 (mean_of times sum)) [
      | yes h ↦ h
      | no h ↦
          let z : mean_of times sum ≡ 0 = omega arith in
          let e : sum ≡ 0 * times + remainder_of times sum = rw z at (mean_with_remainder times sum n) in
          absurd (omega (arith, remainder_below times sum n, zero-mul times))
    ]

pub mean_most : (times sum m : ℕ) → times ≢ 0 → sum ≤ times * m → mean_of times sum ≤ m
mean_most times sum m n high =
    elim (dec_lt m (mean_of times sum)) [
      | yes h ↦ absurd (omega (arith, mean_with_remainder times sum n, mul-le-mul_right times h, add-mul m 1 times, one-mul times, mul_comm times m))
      | no h ↦ omega arith
    ]

-- ---- ended waits of 1 to m releases each
pub record WithinReleases (m : ℕ) (r : Row) : Type 0 where
  pub largest : r.largest ≤ m
  pub sum_least : r.times ≤ r.sum
  pub sum_most : r.sum ≤ r.times * m

pub no_wait_within : (m : ℕ) → WithinReleases m empty_row
no_wait_within m = record { largest = omega arith; sum_least = omega arith; sum_most = omega arith }

pub unended_within : (m : ℕ) → WithinReleases m unended_row
unended_within m = record { largest = omega arith; sum_least = omega arith; sum_most = omega arith }

pub ended_within : (m n : ℕ) → 1 ≤ n → n ≤ m → WithinReleases m (ended_row n)
ended_within m n low high = record { largest = high; sum_least = low; sum_most = rw (one-mul m) high }

pub joined_within : (m : ℕ) (a b : Row) → WithinReleases m a → WithinReleases m b → WithinReleases m (joined a b)
joined_within m a b p q = record { largest = omega arith; sum_least = omega arith; sum_most = rw (add-mul a.times b.times m) (omega arith) }

pub mean_within : (m : ℕ) (r : Row) → WithinReleases m r → r.times ≢ 0 → (1 ≤ mean_of r.times r.sum) × (mean_of r.times r.sum ≤ m)
mean_within m r w n = (mean_least r.times r.sum n w.sum_least, mean_most r.times r.sum m n w.sum_most)
