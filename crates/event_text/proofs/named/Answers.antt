-- `event_text::named` meets its contract: a word, then a number.
use Rattle.std.proofs.Common.{rules}
use Rattle.number_text.proofs.Stores.{and_then}
use Rattle.event_text.proofs.named.Goals as goal

pub returns : goal.returns
returns c = (search (and_then, rules))
