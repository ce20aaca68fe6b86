-- `print_sheet` meets its contract: the line of a sheet that is too long, or the run's text.
use Rattle.std.proofs.Common.{sym, ◌∙◌}
use Rattle.linebook_text.proofs.Linebook.{met_long, met_short}
use Rattle.linebook_text.proofs.print_sheet.Goals as goal

pub returns-then-is_too_long : goal.returns-then-is_too_long
returns-then-is_too_long c = met_long _ _ _ _ _ (sym c.is_too_long.ensures ∙ c.if-is_too_long.true) c.print_too_long.ensures

pub returns : goal.returns
returns c = met_short _ _ _ _ _ _ _ _ (sym c.is_too_long.ensures ∙ c.if-is_too_long.false) c.unopened-line.ensures c.empty.ensures c.run_reported-ran.ensures
