-- Cells: how long one is, one that is stored as blanks and a number, and how many digits a number has.
use Prim.Native.Nat.{ℕ, zero, suc, ◌+◌, ◌-◌, ◌*◌, ◌/◌, ◌^◌, ◌≤◌, ◌<◌, max}
use mathlib.Core.Path.{◌≡◌}
use mathlib.Core.List.{List, [], ◌∷◌, ◌++◌, append_assoc}
use native.Mathlib.Omega.{arith}
use native.Mathlib.Nat.{pow-suc}
use lib.ListN.{length, length-append, length-replicate, replicate}
use Rattle.number_text.specs.Stored.{Stored}
use Rattle.number_text.proofs.Stores.{and_then}
use Rattle.number_text.proofs.Decimal.{last_length, more_length}
use Rattle.printout.specs.Print.{decimal}
use Rattle.report_text.specs.Table.{cell}

pub cell_length : (width : ℕ) (text : List ℕ) → length (cell width text) ≡ max width (length text)
cell_length width text = simp (length-append, length-replicate) (omega arith)

-- each cell has at least its width
pub least_width : (width : ℕ) (text : List ℕ) → width ≤ length (cell width text)
least_width width text = omega (arith, cell_length width text)

-- blanks up to where the text starts, then the text and a byte
pub cell_stored : {before middle after : List ℕ} {at start next end : ℕ} (width : ℕ) (text : List ℕ) (byte : ℕ) → start ≡ at + (width - length text)
    → Stored (replicate (start - at) 32) before at middle next → Stored (text ++ byte ∷ []) middle next after end → Stored (cell width text ++ byte ∷ []) before at after end
cell_stored {at = at} {start = start} width text byte starts blanks rest =
    let wide : start - at ≡ width - length text = omega (arith, starts) in
    rw (append_assoc (replicate (width - length text) 32) text (byte ∷ [])) (and_then (rw wide at blanks) rest)

-- where the text starts, a text no longer than the bound ends within it
pub starts_within : (at width start length bound : ℕ) → start ≡ at + (width - length) → width < bound → length < bound → start + length < at + bound
starts_within at width start length bound starts wide long = omega arith

-- where a cell and the byte after it end
pub cell_within : {before after : List ℕ} {at end : ℕ} (width : ℕ) (text : List ℕ) (byte bound : ℕ) → Stored (cell width text ++ byte ∷ []) before at after end
    → width < bound → length text < bound → end ≤ at + bound
cell_within width text byte bound s wide long = omega (arith, s.ends, length-append (cell width text) (byte ∷ []), cell_length width text)

-- ---- how many digits a number has: one more than the greatest power of ten that is no larger
power_positive : (k : ℕ) → 0 < 10 ^ k
power_positive zero = omega arith
power_positive (suc k) = rw pow-suc (omega (arith, power_positive k))

pub digits_by_power : (k n : ℕ) → 10 ^ k ≤ n → n < 10 * 10 ^ k → n < 18446744073709551616 → length (decimal n) ≡ k + 1
digits_by_power zero n some below small = last_length n (omega arith)
digits_by_power (suc k) n some below small =
    let least : 10 ^ k * 10 ≤ n = rw pow-suc at some in
    let most : n < 10 * (10 ^ k * 10) = rw pow-suc at below in
    let unit : 0 < 10 ^ k = power_positive k in
    let front = digits_by_power k (n / 10) (omega arith) (omega arith) (omega arith) in
    omega (arith, front, more_length n (omega arith) small)
