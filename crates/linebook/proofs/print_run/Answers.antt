-- `print_run` lends a buffer that has room for the longest text, by a law and not by counting.
use Rattle.std.proofs.Common.{ℕ, sym}
use Rattle.std.proofs.lemmas.List.{length-replicate}
use Rattle.limits.specs.Limits.{most_sheet}
use Rattle.run_text.specs.RunText.{most_text}
use Rattle.linebook.proofs.print_run.Goals as goal

pub slice_bounds-print_in-end : goal.slice_bounds-print_in-end
slice_bounds-print_in-end c = sym (length-replicate {A = ℕ} (most_text most_sheet) 0)

pub print_in-requires : goal.print_in-requires
print_in-requires c = sym (length-replicate {A = ℕ} (most_text most_sheet) 0)
