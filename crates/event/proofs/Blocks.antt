-- The blocks of a view event: there are eight, and they are made again of their numbers.
use Prim.Native.Nat.{ℕ, ◌*◌}
use mathlib.Core.Path.{◌≡◌, refl}
use mathlib.Core.Path.{subst}
use mathlib.Core.List.{List, [], ◌∷◌}
use native.Mathlib.Omega.{arith}
use lib.ListN.{get_or, length}
use Rattle.view.specs.declared.Block.{Block}
use Rattle.event.specs.Event.{block_list, block_numbers}
use Rattle.event.specs.Kinds.{blocks_at}

pub block_numbers_length : (bs : List Block) → length (block_numbers bs) ≡ 2 * length bs
block_numbers_length [] = refl
block_numbers_length (b ∷ bs) = omega (arith, block_numbers_length bs)

pub eight_are : (bs : List Block) → length bs ≡ 8 → block_list bs ≡ bs
eight_are [] h = absurd (omega arith)
eight_are (a ∷ []) h = absurd (omega arith)
eight_are (a ∷ b ∷ []) h = absurd (omega arith)
eight_are (a ∷ b ∷ c ∷ []) h = absurd (omega arith)
eight_are (a ∷ b ∷ c ∷ d ∷ []) h = absurd (omega arith)
eight_are (a ∷ b ∷ c ∷ d ∷ e ∷ []) h = absurd (omega arith)
eight_are (a ∷ b ∷ c ∷ d ∷ e ∷ f ∷ []) h = absurd (omega arith)
eight_are (a ∷ b ∷ c ∷ d ∷ e ∷ f ∷ g ∷ []) h = absurd (omega arith)
eight_are (a ∷ b ∷ c ∷ d ∷ e ∷ f ∷ g ∷ i ∷ []) h = refl
eight_are (a ∷ b ∷ c ∷ d ∷ e ∷ f ∷ g ∷ i ∷ j ∷ bs) h = absurd (omega arith)

-- among a view's fields they follow three others
pub blocks_back : (x y z : ℕ) (bs : List Block) → length bs ≡ 8 → blocks_at (λ (k : ℕ). get_or (x ∷ y ∷ z ∷ block_numbers bs) k 0) ≡ bs
blocks_back x y z bs h = subst (λ (l : List Block). blocks_at (λ (k : ℕ). get_or (x ∷ y ∷ z ∷ block_numbers l) k 0) ≡ l) (eight_are bs h) refl
