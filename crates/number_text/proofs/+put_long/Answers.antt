-- `number_text::put_long` meets its contract: the digits before the last by the call of itself at a tenth, then the last.
use Rattle.std.proofs.Common.{arith}
use Rattle.number_text.proofs.Stores.{and_then, one_byte, stored_length}
use Rattle.number_text.proofs.Decimal.{decimal_last, decimal_more, last_length, more_length}
use Rattle.number_text.proofs.+put_long.Goals as goal

-- ---- one digit
pub bounds-out-at : goal.bounds-out-at
bounds-out-at t c = omega (arith, last_length c.args.n c.if-n-lt10.true)

pub returns-then-n-lt10 : goal.returns-then-n-lt10
returns-then-n-lt10 t c = rw (decimal_last c.args.n c.if-n-lt10.true) (one_byte _ _ _)

-- ---- more
pub put_long-last-requires : goal.put_long-last-requires
put_long-last-requires t c = (omega arith, omega (arith, more_length c.args.n c.if-n-lt10.false (omega arith)))

pub bounds-out-last : goal.bounds-out-last
bounds-out-last t c = omega (arith, more_length c.args.n c.if-n-lt10.false (omega arith), c.put_long-last.ensures.ends, stored_length c.put_long-last.ensures)

pub overflow_add-result-else-n-lt10 : goal.overflow_add-result-else-n-lt10
overflow_add-result-else-n-lt10 t c = omega (arith, more_length c.args.n c.if-n-lt10.false (omega arith), c.put_long-last.ensures.ends)

pub returns-else-n-lt10 : goal.returns-else-n-lt10
returns-else-n-lt10 t c = rw (decimal_more c.args.n c.if-n-lt10.false (omega arith)) (and_then c.put_long-last.ensures (one_byte _ _ _))
