-- The numbers that have a reason, and those that have none.
use Prim.Native.Nat.{ℕ, zero, suc, ◌+◌, ◌≤◌}
use mathlib.Core.Path.{◌≡◌, refl}
use mathlib.Core.List.{[], ◌∷◌}
use native.Mathlib.Omega.{arith}
use lib.ListN.{get_or-eq_default, length}
use Rattle.event_text.specs.Reasons.{last_reason, reason_text, reason_texts}

pub reasons_counted : length reason_texts ≡ last_reason
reasons_counted = refl

-- a number that is none of them
pub past : (k n : ℕ) → k ≤ n → (n ≡ k → ⊥) → k + 1 ≤ n
past k n some other = omega (arith, some, other)

pub no_reason : (n : ℕ) → (1 ≤ n → last_reason + 1 ≤ n) → reason_text n ≡ []
no_reason zero further = refl
no_reason (suc n) further = get_or-eq_default ([] ∷ reason_texts) [] (further (omega arith))
