-- The number in a run of bytes from those of its two parts.
use Prim.Native.Nat.{ℕ, ◌+◌, ◌*◌, ◌^◌, ◌≤◌, ◌<◌}
use mathlib.Core.Path.{◌≡◌}
use mathlib.Core.List.{List}
use native.Mathlib.Omega.{arith}
use lib.ListN.{drop, get_or, length, take, length-drop}
use lib.Seq.{drop-cons, drop-drop, length-take-le, take-add}
use Rattle.event.specs.BigEndian.{number_of}
use Rattle.event.proofs.Numbers.{number_append}

-- the number in m + n bytes: the first m, then n
pub number_split : (m n : ℕ) (sheet : List ℕ) (at : ℕ) → at + (m + n) ≤ length sheet
    → number_of (take (m + n) (drop at sheet)) ≡ number_of (take m (drop at sheet)) * 256 ^ n + number_of (take n (drop (at + m) sheet))
number_split m n sheet at room =
    let left : n ≤ length (drop (at + m) sheet) = simp length-drop (omega arith) in
    rw (
      take-add m n (drop at sheet),
      drop-drop m at sheet,
      number_append (take m (drop at sheet)) (take n (drop (at + m) sheet)),
      length-take-le n (drop (at + m) sheet) left,
    )

pub number_of_one : (sheet : List ℕ) (at : ℕ) → at < length sheet → number_of (take 1 (drop at sheet)) ≡ get_or sheet at 0
unfolding number_of
number_of_one sheet at more = rw (drop-cons sheet at 0 more) (omega arith)

-- two, four and eight bytes, from their halves
pub two_bytes : (sheet : List ℕ) (at : ℕ) → at + 2 ≤ length sheet → get_or sheet at 0 * 256 + get_or sheet (at + 1) 0 ≡ number_of (take 2 (drop at sheet))
two_bytes sheet at room = omega (arith, number_split 1 1 sheet at room, number_of_one sheet at (omega arith), number_of_one sheet (at + 1) (omega arith))

pub four_bytes : (sheet : List ℕ) (at : ℕ) → at + 4 ≤ length sheet
    → number_of (take 2 (drop at sheet)) * 65536 + number_of (take 2 (drop (at + 2) sheet)) ≡ number_of (take 4 (drop at sheet))
four_bytes sheet at room = omega (arith, number_split 2 2 sheet at room)

pub eight_bytes : (sheet : List ℕ) (at : ℕ) → at + 8 ≤ length sheet
    → number_of (take 4 (drop at sheet)) * 4294967296 + number_of (take 4 (drop (at + 4) sheet)) ≡ number_of (take 8 (drop at sheet))
eight_bytes sheet at room = omega (arith, number_split 4 4 sheet at room)
