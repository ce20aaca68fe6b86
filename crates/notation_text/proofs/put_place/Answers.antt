-- The line, then the column: each has at most 20 digits.
use Rattle.std.proofs.Common.{arith, rules}
use Rattle.printout.specs.Print.{decimal}
use Rattle.number_text.proofs.Decimal.{few_digits}
use Rattle.word_text.proofs.Words.{past}
use Rattle.notation_text.proofs.Places.{place_stored}
use Rattle.notation_text.proofs.put_place.Goals as goal

pub put_number-to2-requires : goal.put_number-to2-requires
put_number-to2-requires c = omega (arith, c.put_word-to1.ensures.ends, few_digits 19 c.args.spot.line (search rules))

pub put_word-to3-requires : goal.put_word-to3-requires
put_word-to3-requires c =
    let line = past (decimal c.args.spot.line) 44 c.put_number-to2.ensures in
    omega (arith, c.put_word-to1.ensures.ends, line, few_digits 19 c.args.spot.line (search rules))

pub put_number-requires : goal.put_number-requires
put_number-requires c =
    let line = past (decimal c.args.spot.line) 44 c.put_number-to2.ensures in
    omega (arith, c.put_word-to1.ensures.ends, line, c.put_word-to3.ensures.ends, few_digits 19 c.args.spot.line (search rules), few_digits 19 c.args.spot.column (search rules))

pub returns : goal.returns
returns c =
    place_stored c.args.spot (few_digits 19 c.args.spot.line (search rules)) (few_digits 19 c.args.spot.column (search rules))
    c.put_word-to1.ensures c.put_number-to2.ensures c.put_word-to3.ensures c.put_number.ensures
