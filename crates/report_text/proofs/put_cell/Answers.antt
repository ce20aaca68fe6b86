-- `put_cell` meets its contract: blanks, then the number, of 20 digits at most.
use Rattle.std.proofs.Common.{ℕ, ◌+◌, ◌-◌, ◌≤◌, ◌≡◌, length, arith}
use lib.ListN.{length-replicate}
use Rattle.printout.specs.Print.{decimal}
use Rattle.number_text.proofs.Decimal.{few_digits}
use Rattle.number_text.proofs.Stores.{stored_length}
use Rattle.report_text.proofs.Cells.{cell_stored, cell_within, starts_within}
use Rattle.report_text.proofs.put_cell.Goals as goal

pub put_number-requires : goal.put_number-requires
put_number-requires c =
    let a = c.args in
    let start = c.text_start-start.result in
    let starts : start ≡ a.at + (a.width - length (decimal a.n)) = rw c.digits.ensures at c.text_start-start.ensures in
    let short : length (decimal a.n) ≤ 20 = few_digits 19 a.n (omega arith) in
    let end = starts_within a.at a.width start (length (decimal a.n)) 21 starts c.requires.0 (omega arith) in
    let blanks = length-replicate {A = ℕ} (start - a.at) 32 in
    omega (arith, c.put_blanks-next.ensures.ends, stored_length c.put_blanks-next.ensures, blanks, end, starts, c.requires.1)

pub returns : goal.returns
returns c =
    let a = c.args in
    let starts : c.text_start-start.result ≡ a.at + (a.width - length (decimal a.n)) = rw c.digits.ensures at c.text_start-start.ensures in
    let short : length (decimal a.n) ≤ 20 = few_digits 19 a.n (omega arith) in
    let line = cell_stored a.width (decimal a.n) a.after starts c.put_blanks-next.ensures c.put_number.ensures in
    (line, cell_within a.width (decimal a.n) a.after 21 line c.requires.0 (omega arith))
