-- `word_text::put_number` meets its contract: the digits, then the byte.
use Rattle.number_text.proofs.Stores.{and_then, one_byte}
use Rattle.word_text.proofs.put_number.Goals as goal

pub returns : goal.returns
returns c = and_then c.put_decimal-end.ensures (one_byte _ _ _)
