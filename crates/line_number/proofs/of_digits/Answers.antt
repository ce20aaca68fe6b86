-- `line_number::of_digits` meets its contract: what is computed of the digits fits.
use Rattle.std.proofs.Common.{arith}
use Rattle.line_number.proofs.Bytes.{digits_fit}
use Rattle.line_number.proofs.of_digits.Goals as goal

pub overflow_mul-result : goal.overflow_mul-result
overflow_mul-result c = omega (arith, (digits_fit c.requires.0).text)

pub overflow_add-result-2 : goal.overflow_add-result-2
overflow_add-result-2 c = omega (arith, (digits_fit c.requires.0).text)

pub overflow_mul-result-3 : goal.overflow_mul-result-3
overflow_mul-result-3 c = omega (arith, (digits_fit c.requires.0).unit)
