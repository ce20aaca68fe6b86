-- The place, what was expected, what was found.
use Rattle.std.proofs.Common.{arith}
use Rattle.number_text.proofs.Stores.{and_then}
use Rattle.notation_text.specs.Message.{parse_line}
use Rattle.notation_text.proofs.put_no_second.Goals as goal

pub returns : goal.returns
unfolding parse_line
returns c = (
  and_then c.put_place-next.ensures.0 (and_then c.put_word-then.ensures c.put_found.ensures.0),
  omega (arith, c.put_place-next.ensures.1, c.put_word-then.ensures.ends, c.put_found.ensures.1),
)
