-- What looks like notation, and what does not.
use Prim.Native.Nat.{ℕ, ◌+◌}
use mathlib.Core.Path.{◌≡◌, refl}
use mathlib.Core.Bool.{true, false}
use mathlib.Core.List.{List, [], ◌∷◌}
use lib.Dec.{eqb, ltb}
use lib.ListN.{length}
use Rattle.std.proofs.Common.{None}
use Rattle.lists.proofs.Tests.{by_test}
use Rattle.notation.specs.Notation.{bytes_from, fault_from, fault_of, is_free, looks_like_notation, notation_bytes, opens_notation, past_mark}
use Rattle.notation.specs.declared.Fault.{Fault}
use Rattle.notation.specs.declared.State.{State}
use Rattle.notation.proofs.Characters.{by_digit, free_neither, same_both}
use Rattle.notation.proofs.Pairs.{fault_clash}

-- a sheet that opens its line does not: 01 is neither free nor a digit
pub opened_looks_not : (rest : List ℕ) → looks_like_notation (1 ∷ rest) ≡ false
unfolding opens_notation
opened_looks_not rest = rw (same_both (ltb (length (1 ∷ rest)) 3) 0)

opens : (text : List ℕ) (at : ℕ) → fault_from at State.Between text ≡ None → (bytes_from State.Between text ≡ [] → ⊥) → opens_notation text ≡ true
unfolding opens_notation fault_from bytes_from
opens [] at e some = absurd (some refl)
opens (c ∷ cs) at e some =
    by_test (is_free c)
    (λ t. let neither = free_neither c t in rw t (opens cs (at + 1) (rw (neither.0, t) at e) (rw (neither.0, t) at some)))
    (λ free. by_test (eqb c 35)
    (λ t. rw (free, t))
    (λ hash. by_digit c
    (λ none. fault_clash (Fault.NoDigit at) (rw (hash, free, none) at e))
    (λ d digit. rw (free, hash, digit))))

-- a text with no fault and with a byte does
pub parsed_looks : (text : List ℕ) → fault_of (past_mark text) ≡ None → (notation_bytes (past_mark text) ≡ [] → ⊥) → looks_like_notation text ≡ true
parsed_looks text e some = opens (past_mark text) 0 e some
