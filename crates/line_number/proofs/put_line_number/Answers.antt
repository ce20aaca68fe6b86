-- `line_number::put_line_number` meets its contract: the number has at most 20 digits.
use Rattle.std.proofs.Common.{arith}
use Rattle.number_text.proofs.Decimal.{few_digits}
use Rattle.line_number.specs.Numbered.{number_in}
use Rattle.line_number.proofs.put_line_number.Goals as goal

pub put_number-requires : goal.put_number-requires
put_number-requires c = rw c.number_of.ensures (omega (arith, few_digits 19 (number_in c.args.own) (omega arith), c.requires.1))
