-- `event_text::put_block` meets its contract: the start, the length, and the bytes around them.
use Rattle.std.proofs.Common.{rules}
use Rattle.number_text.proofs.Stores.{and_then}
use Rattle.event_text.proofs.Shown.{two_then}
use Rattle.event_text.proofs.put_block.Goals as goal

pub returns : goal.returns
returns c =
    let start = rw c.from.ensures at c.put_marked-to2.ensures.0 in
    let long = rw c.from-2.ensures at c.number-to3.ensures.0 in
    (and_then (and_then c.mark-to1.ensures.0 (two_then start long)) c.mark.ensures.0, search rules)
