-- `digits` meets its contract: one more than the power of ten, and one for 0.
use Rattle.std.proofs.Common.{arith, sym}
use Rattle.number_text.proofs.Decimal.{last_length}
use Rattle.report_text.proofs.Cells.{digits_by_power}
use Rattle.report_text.proofs.digits.Goals as goal

pub returns-in-Some : goal.returns-in-Some
returns-in-Some c =
    let s = c.in-Some in
    sym (digits_by_power s.power c.args.n s.ensures.power_le s.ensures.next_power_gt (omega arith))

pub returns-in-None : goal.returns-in-None
returns-in-None c = sym (last_length c.args.n (omega (arith, c.in-None.ensures.none)))
