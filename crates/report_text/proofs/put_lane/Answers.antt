-- `put_lane` meets its contract: nothing of a lane without any wait, else its number and its numbers.
use Rattle.std.proofs.Common.{arith, refl, sym, ◌∙◌}
use Rattle.printout.specs.Print.{words}
use Rattle.number_text.proofs.Stores.{and_then}
use Rattle.report_text.specs.Table.{row_line}
use Rattle.report_text.proofs.put_lane.Goals as goal

pub returns-then-has_wait : goal.returns-then-has_wait
unfolding row_line words
returns-then-has_wait c =
    rw (sym c.has_wait.ensures ∙ c.if-has_wait.true) (and_then c.put_cell-next.ensures.0 c.put_numbers.ensures.0, omega (arith, c.put_cell-next.ensures.1, c.put_numbers.ensures.1))

pub returns-else-has_wait : goal.returns-else-has_wait
returns-else-has_wait c = rw (sym c.has_wait.ensures ∙ c.if-has_wait.false) (record { bytes = refl; ends = omega arith }, omega arith)
