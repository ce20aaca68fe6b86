-- `event_text::put_write` meets its contract: the lane, then the record.
use Rattle.std.proofs.Common.{rules}
use Rattle.printout.specs.Print.{words}
use Rattle.event_text.proofs.Shown.{two_then}
use Rattle.event_text.proofs.put_write.Goals as goal

pub returns : goal.returns
unfolding words
returns c =
    let lane = rw c.from.ensures at c.named-next.ensures.0 in
    (two_then lane c.recorded.ensures.0, search rules)
