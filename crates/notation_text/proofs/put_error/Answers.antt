-- The two refusals that have no place.
use Rattle.std.proofs.Common.{arith}
use Rattle.notation_text.specs.Message.{parse_line}
use Rattle.notation_text.proofs.put_error.Goals as goal

pub returns-in-TooLong : goal.returns-in-TooLong
unfolding parse_line
returns-in-TooLong c = rw c.in-TooLong.is (c.put_word.ensures, omega (arith, c.put_word.ensures.ends))

pub returns-in-TooShort : goal.returns-in-TooShort
unfolding parse_line
returns-in-TooShort c = rw c.in-TooShort.is (c.put_word-in-TooShort.ensures, omega (arith, c.put_word-in-TooShort.ensures.ends))
