-- `event_text::put_view` meets its contract: three named numbers, then the blocks.
use Rattle.std.proofs.Common.{rules}
use Rattle.printout.specs.Print.{words}
use Rattle.event_text.proofs.Shown.{two_then}
use Rattle.event_text.proofs.put_view.Goals as goal

pub returns : goal.returns
unfolding words
returns c =
    let displacement = rw c.from.ensures at c.named-to1.ensures.0 in
    let extent = rw c.from-2.ensures at c.named-to2.ensures.0 in
    let used = rw c.from-3.ensures at c.named-to3.ensures.0 in
    (two_then displacement (two_then extent (two_then used c.put_blocks.ensures.0)), search rules)
