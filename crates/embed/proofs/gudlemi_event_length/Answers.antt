-- `gudlemi_event_length` meets its contract: an event ends past its start.
use Rattle.std.proofs.Common.{arith, sym, ◌∙◌}
use Rattle.event.proofs.Lengths.{reads}
use Rattle.embed.proofs.gudlemi_event_length.Goals as goal

pub overflow_sub-result : goal.overflow_sub-result
overflow_sub-result c =
    let read = rw c.in-Ok-Some.field-0-is at (sym c.read_event.ensures ∙ c.in-Ok-Some.is) in
    omega (arith, (reads c.args.sheet.now c.args.at _ _ read).longer)
