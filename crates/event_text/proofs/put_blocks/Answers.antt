-- `event_text::put_blocks` meets its contract: two blocks at a time.
use Rattle.std.proofs.Common.{rules}
use Rattle.printout.specs.Print.{words}
use Rattle.event_text.proofs.Shown.{two_then}
use Rattle.event_text.proofs.put_blocks.Goals as goal

pub returns : goal.returns
unfolding words
returns c = (search (two_then, rules))
