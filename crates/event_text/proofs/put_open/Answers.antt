-- `event_text::put_open` meets its contract: two named numbers.
use Rattle.std.proofs.Common.{rules}
use Rattle.printout.specs.Print.{words}
use Rattle.event_text.proofs.put_open.Goals as goal

pub returns : goal.returns
unfolding words
returns c = (rw c.from.ensures at c.put_fields.ensures.0, search rules)
