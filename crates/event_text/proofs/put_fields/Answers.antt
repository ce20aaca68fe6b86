-- `event_text::put_fields` meets its contract: a named number, twice.
use Rattle.std.proofs.Common.{rules}
use Rattle.printout.specs.Print.{words}
use Rattle.event_text.proofs.Shown.{two_then}
use Rattle.event_text.proofs.put_fields.Goals as goal

pub returns : goal.returns
unfolding words
returns c = rw (← c.from.ensures) (search (two_then, rules))
