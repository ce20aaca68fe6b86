-- `event_text::put_marked` meets its contract: the number, then a blank.
use Rattle.std.proofs.Common.{rules}
use Rattle.number_text.proofs.Stores.{and_then}
use Rattle.event_text.proofs.put_marked.Goals as goal

pub returns : goal.returns
returns c = (search (and_then, rules))
