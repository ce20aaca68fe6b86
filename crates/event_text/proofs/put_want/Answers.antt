-- `event_text::put_want` meets its contract: two named numbers.
use Rattle.std.proofs.Common.{rules}
use Rattle.printout.specs.Print.{words}
use Rattle.event_text.proofs.put_want.Goals as goal

pub returns : goal.returns
unfolding words
returns c = (rw c.from.ensures at c.put_fields.ensures.0, search rules)
