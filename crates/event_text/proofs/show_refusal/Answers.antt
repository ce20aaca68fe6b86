-- `event_text::show_refusal` meets its contract: the number, the byte, then the reason.
use Rattle.std.proofs.Common.{rules}
use Rattle.number_text.proofs.Stores.{and_then}
use Rattle.printout.specs.Print.{words}
use Rattle.event_text.proofs.show_refusal.Goals as goal

pub returns : goal.returns
unfolding words
returns c = (search (and_then, rules))
