-- `run_sheet` lends a buffer of a length that is known, by a law and not by counting.
use Rattle.std.proofs.Common.{ℕ, sym}
use Rattle.std.proofs.lemmas.List.{length-replicate}
use Rattle.limits.specs.Limits.{most_sheet}
use Rattle.run_text.specs.RunText.{most_text}
use Rattle.linereport.proofs.run_sheet.Goals as goal

pub slice_bounds-run_in-end : goal.slice_bounds-run_in-end
slice_bounds-run_in-end c = sym (length-replicate {A = ℕ} (most_text most_sheet) 0)
