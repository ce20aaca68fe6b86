-- `line_number::line_number` meets its contract: the digits of five, the most.
use Rattle.std.proofs.Common.{arith, refl}
use Rattle.line_number.proofs.Bytes.{five_digits}
use Rattle.line_number.proofs.line_number.Goals as goal

pub of_digits-requires-then-n-lt100000 : goal.of_digits-requires-then-n-lt100000
of_digits-requires-then-n-lt100000 c =
    let digits = five_digits _ _ _ c.if-n-lt10000.false c.if-n-lt100000.true c.pair_of-then-n-lt100000.ensures.0 c.pair_of-then-n-lt100000-2.ensures.0 in
    (digits, refl, omega arith)
