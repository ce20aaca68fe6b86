-- The tables of the plain view and of a view with two blocks, computed from the definitions.
use Prim.Native.Nat.{ℕ}
use mathlib.Core.Path.{◌≡◌, refl}
use mathlib.Core.List.{[], ◌∷◌, map}
use lib.ListN.{replicate}
use Rattle.view.specs.View.{place, plain_view}
use Rattle.view.proofs.Edges.{example}
use Rattle.tiling.specs.Tiling.{tiling_of, records_from, shown_records, records_of, table_position}

pub plain_table : records_of plain_view ≡ 0 ∷ replicate 1023 0
unfolding records_of shown_records records_from
plain_table = refl

pub example_table : records_of example ≡ 1 ∷ 2 ∷ 4 ∷ replicate 1021 0
unfolding records_of shown_records records_from
example_table = refl

pub example_positions : map (λ (k : ℕ). (table_position (tiling_of example) (records_of example) (place k)).0) (0 ∷ 1 ∷ 2 ∷ 3 ∷ []) ≡ 12 ∷ 20 ∷ 36 ∷ 52 ∷ []
unfolding table_position records_of shown_records records_from
example_positions = refl
