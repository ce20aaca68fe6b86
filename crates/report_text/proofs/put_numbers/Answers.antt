-- `put_numbers` meets its contract: its cells, one after the other.
use Rattle.std.proofs.Common.{rules}
use Rattle.printout.specs.Print.{words}
use Rattle.number_text.proofs.Stores.{and_then}
use Rattle.report_text.proofs.put_numbers.Goals as goal

pub returns : goal.returns
unfolding words
returns c =
    let mean-cell = rw c.mean-mean.ensures at c.put_cell-to_remainder.ensures.0 in
    let remainder-cell = rw c.remainder-remainder.ensures at c.put_cell-to_unended.ensures.0 in
    let last = and_then mean-cell (and_then remainder-cell c.put_cell.ensures.0) in
    (and_then c.put_cell-to_sum.ensures.0 (and_then c.put_cell-to_largest.ensures.0 (and_then c.put_cell-to_mean.ensures.0 last)), search rules)
