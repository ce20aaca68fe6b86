-- `event_text::show_event` meets its contract: the number, then the event.
use Rattle.std.proofs.Common.{rules}
use Rattle.number_text.proofs.Stores.{and_then}
use Rattle.event_text.proofs.show_event.Goals as goal

pub returns : goal.returns
returns c = (search (and_then, rules))
