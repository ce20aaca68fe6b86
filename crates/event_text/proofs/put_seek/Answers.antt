-- `event_text::put_seek` meets its contract: the whence, then the offset.
use Rattle.std.proofs.Common.{rules}
use Rattle.number_text.proofs.Stores.{and_then}
use Rattle.printout.specs.Print.{words}
use Rattle.event_text.proofs.Shown.{two_then}
use Rattle.event_text.proofs.put_seek.Goals as goal

pub returns : goal.returns
unfolding words
returns c =
    let whence = rw c.from.ensures at c.named-next.ensures.0 in
    (two_then whence (and_then c.word-then.ensures.0 c.put_signed.ensures.0), search rules)
