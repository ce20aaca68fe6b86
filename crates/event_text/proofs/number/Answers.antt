-- `event_text::number` meets its contract: at most 20 digits.
use Rattle.std.proofs.Common.{arith}
use Rattle.printout.specs.Print.{decimal}
use Rattle.number_text.proofs.Decimal.{few_digits}
use Rattle.word_text.proofs.Words.{past}
use Rattle.event_text.proofs.number.Goals as goal

pub put_number-requires : goal.put_number-requires
put_number-requires c = omega (arith, c.requires, few_digits 19 c.args.n (omega arith))

pub returns : goal.returns
returns c = (c.put_number.ensures, omega (arith, past (decimal c.args.n) _ c.put_number.ensures, few_digits 19 c.args.n (omega arith)))
