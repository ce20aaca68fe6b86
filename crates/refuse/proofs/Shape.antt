-- A line that a function is handed has arrays of its type's lengths.
use mathlib.Core.List.{[], ◌∷◌}
use denote.Laws.{Is}
use denote.Struct.Declared.{row}
use denote.Struct.Laws.{val}
use Rattle.lists.proofs.Parts.{length_unmapped}
use Rattle.line.specs.declared.Line.{Line}
use Rattle.line.specs.Line.{Shaped}
use Rattle.line.specs.contracts.Line.{the_type}
use Rattle.line.proofs.Line.TheLaws.{the_laws}

-- what a function's proof has of such a parameter is `Is`, in `good`
pub shape_of : (l : Line) → Is (row the_type) l (val the_type the_laws l ∷ []) → Shaped l
shape_of l g =
    record { lanes_length = search (length_unmapped, g); flags_length = search (length_unmapped, g); blocks_length = search (length_unmapped, g) }
