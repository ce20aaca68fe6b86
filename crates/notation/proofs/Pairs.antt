-- Of a text with no fault: its digits outside comments are those of its bytes, two a byte, in order and none lost.
use Prim.Native.Nat.{ℕ, ◌+◌, ◌*◌, ◌/◌, ◌%◌, ◌<◌}
use mathlib.Core.Path.{◌≡◌, refl}
use mathlib.Core.Bool.{true, false}
use mathlib.Core.List.{List, [], ◌∷◌}
use native.Mathlib.Omega.{arith}
use lib.Dec.{eqb}
use Rattle.std.proofs.Common.{Option, Some, None}
use Rattle.lists.proofs.Tests.{by_test}
use Rattle.notation.specs.Notation.{bytes_from, fault_from, fault_of, is_free, is_line_end, notation_bytes}
use Rattle.notation.specs.Written.{digit_pairs, digits_from, digits_of}
use Rattle.notation.specs.declared.Fault.{Fault}
use Rattle.notation.specs.declared.State.{State}
use Rattle.notation.proofs.Characters.{by_digit, digit_no_hash, digit_small, free_neither}
use Rattle.notation.proofs.Laws.{bytes_settled, fault_settled}

-- a byte that has ended leaves what a start leaves
pub fault_whole : (v at : ℕ) (text : List ℕ) → fault_from at (State.Byte v) text ≡ fault_from at State.Between text
fault_whole v at text = fault_settled (State.Byte v) at text

pub bytes_whole : (v : ℕ) (text : List ℕ) → bytes_from (State.Byte v) text ≡ bytes_from State.Between text
bytes_whole v text = bytes_settled (State.Byte v) text

-- a text with a fault is not without one
pub fault_clash : {X : Type 0} (fault : Fault) → ◌≡◌ {A = Option Fault} (Some fault) None → X
fault_clash fault e = let z : ◌≡◌ {A = ℕ} 0 1 = cc in absurd (omega arith)

two : (a b : ℕ) (xs ys : List ℕ) → b < 16 → xs ≡ ys → a ∷ b ∷ xs ≡ (a * 16 + b) / 16 ∷ (a * 16 + b) % 16 ∷ ys
two a b xs ys h e =
    let first : (a * 16 + b) / 16 ≡ a = omega arith in
    let second : (a * 16 + b) % 16 ≡ b = omega arith in
    rw (first, second, e)

mutual
  unfolding fault_from bytes_from digits_from digit_pairs

  between : (text : List ℕ) (at : ℕ) → fault_from at State.Between text ≡ None → digits_from false text ≡ digit_pairs (bytes_from State.Between text)
  between [] at e = refl
  between (c ∷ cs) at e =
      by_test (eqb c 35)
      (λ t. rw t (in_comment cs (at + 1) (rw t at e)))
      (λ hash. by_test (is_free c)
      (λ t. let neither = free_neither c t in rw (hash, t, neither.1) (between cs (at + 1) (rw (hash, t) at e)))
      (λ free. by_digit c
      (λ none. fault_clash (Fault.NoDigit at) (rw (hash, free, none) at e))
      (λ d some. rw (hash, free, some) (after_first cs d (at + 1) (rw (hash, free, some) at e)))))

  in_comment : (text : List ℕ) (at : ℕ) → fault_from at State.Comment text ≡ None → digits_from true text ≡ digit_pairs (bytes_from State.Comment text)
  in_comment [] at e = refl
  in_comment (c ∷ cs) at e =
      by_test (is_line_end c)
      (λ t. rw t (between cs (at + 1) (rw t at e)))
      (λ f. rw f (in_comment cs (at + 1) (rw f at e)))

  -- with the first digit of a byte before the text
  after_first : (text : List ℕ) (a : ℕ) (at : ℕ) → fault_from at (State.First a) text ≡ None → a ∷ digits_from false text ≡ digit_pairs (bytes_from (State.First a) text)
  after_first [] a at e = fault_clash (Fault.NoSecond at) e
  after_first (c ∷ cs) a at e =
      by_digit c
      (λ none. fault_clash (Fault.NoSecond at) (rw none at e))
      (λ d some.
      let v = a * 16 + d in
      let rest = between cs (at + 1) (rw (some, fault_whole v (at + 1) cs) at e) in
      rw (digit_no_hash c d some, some, bytes_whole v cs) (two a d _ _ (digit_small c d some) rest))

pub digits_are_bytes : (text : List ℕ) → fault_of text ≡ None → digits_of text ≡ digit_pairs (notation_bytes text)
digits_are_bytes text e = between text 0 e
