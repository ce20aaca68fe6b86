-- `event_text::put_two_blocks` meets its contract: a block, twice.
use Rattle.std.proofs.Common.{rules}
use Rattle.number_text.proofs.Stores.{and_then}
use Rattle.event_text.proofs.put_two_blocks.Goals as goal

pub returns : goal.returns
returns c = (search (and_then, rules))
