-- `number_of` meets its contract where a number is one byte.
use Rattle.std.proofs.Common.{arith}
use Rattle.decode_fields.proofs.Numbers.{number_of_one}
use Rattle.state_calls.proofs.told.number_of.Goals as goal

pub returns-in-0 : goal.returns-in-0
returns-in-0 c = rw (c.in-0.is, number_of_one c.args.state.now 8 (omega arith), c.from.ensures)

pub returns-in-6 : goal.returns-in-6
returns-in-6 c = rw (c.in-6.is, number_of_one c.args.state.now 27 (omega arith), c.from-in-6.ensures)
