-- A report that a function is handed has a row for each lane that a line can have.
use mathlib.Core.Path.{◌≡◌}
use mathlib.Core.List.{[], ◌∷◌}
use lib.ListN.{length}
use denote.Laws.{Is}
use denote.Struct.Declared.{row}
use denote.Struct.Laws.{val}
use Rattle.limits.specs.Limits.{most_lanes}
use Rattle.lists.proofs.Parts.{length_unmapped}
use Rattle.report.specs.declared.Report.{Report}
use Rattle.report.specs.contracts.Report.{the_type}
use Rattle.report.proofs.Report.TheLaws.{the_laws}

-- what a function's proof has of such a parameter is `Is`, in `good`
pub rows_of : (r : Report) → Is (row the_type) r (val the_type the_laws r ∷ []) → length r.lane ≡ most_lanes
rows_of r g = search (length_unmapped, g)
