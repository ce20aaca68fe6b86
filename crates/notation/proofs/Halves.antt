-- The bytes of a text are at most half as many as its characters.
use Prim.Native.Nat.{ℕ, ◌+◌, ◌*◌, ◌/◌, ◌≤◌}
use mathlib.Core.List.{List, [], ◌∷◌}
use native.Mathlib.Omega.{arith}
use lib.Dec.{eqb}
use Rattle.std.proofs.Common.{length, length-append}
use Rattle.lists.proofs.Tests.{by_test}
use Rattle.notation.specs.Notation.{after, bytes_from, is_free, is_line_end, made_of, notation_bytes}
use Rattle.notation.specs.declared.State.{State}
use Rattle.notation.proofs.Characters.{by_digit}

-- the characters of a byte that has not ended
abbrev pending : State → ℕ
pending State.Between = 0
pending State.Comment = 0
pending (State.First high) = 1
pending (State.Byte value) = 0

-- a character adds one, and a byte that ends takes two
between : (c : ℕ) → 2 * length (made_of (after State.Between c)) + pending (after State.Between c) ≤ 1
between c =
    by_test (eqb c 35)
    (λ t. rw t (omega arith))
    (λ hash. by_test (is_free c)
    (λ t. rw (hash, t) (omega arith))
    (λ free. by_digit c
    (λ none. rw (hash, free, none) (omega arith))
    (λ d some. rw (hash, free, some) (omega arith))))

one : (s : State) (c : ℕ) → 2 * length (made_of (after s c)) + pending (after s c) ≤ 1 + pending s
one State.Between c = between c
one State.Comment c = by_test (is_line_end c) (λ t. rw t (omega arith)) (λ f. rw f (omega arith))
one (State.First high) c = by_digit c (λ none. rw none (omega arith)) (λ d some. rw some (omega arith))
one (State.Byte value) c = between c

half_from : (s : State) (text : List ℕ) → 2 * length (bytes_from s text) ≤ length text + pending s
unfolding bytes_from
half_from s [] = omega arith
half_from s (c ∷ cs) = rw (length-append (made_of (after s c)) (bytes_from (after s c) cs)) (omega (arith, half_from (after s c) cs, one s c))

pub at_most_half : (text : List ℕ) (n : ℕ) → length text / 2 ≤ n → length (notation_bytes text) ≤ n
at_most_half text n h = omega (arith, half_from State.Between text, h)
