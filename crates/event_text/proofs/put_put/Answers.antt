-- `event_text::put_put` meets its contract: the lane, the place, then the record.
use Rattle.std.proofs.Common.{rules}
use Rattle.printout.specs.Print.{words}
use Rattle.event_text.proofs.Shown.{two_then}
use Rattle.event_text.proofs.put_put.Goals as goal

pub returns : goal.returns
unfolding words
returns c =
    let lane = rw c.from.ensures at c.named-next.ensures.0 in
    let place = rw c.from-2.ensures at c.named-then.ensures.0 in
    (two_then lane (two_then place c.recorded.ensures.0), search rules)
