use Rattle.std.proofs.Common.{arith, sym}
use Rattle.event.proofs.Lengths.{reads}
use Rattle.sheet.proofs.print_events.Goals as goal

pub loop-event-smaller : goal.loop-event-smaller
loop-event-smaller c =
    let r = reads c.args.sheet.now c.loop-event.at c.in-Ok-Some.event c.in-Ok-Some.next (sym (rw c.in-Ok-Some.field-0-is at c.in-Ok-Some.ensures)) in
    omega (arith, c.loop-event.invariant.1, r.longer, r.within)

pub loop-event-preserved : goal.loop-event-preserved
loop-event-preserved c =
    let r = reads c.args.sheet.now c.loop-event.at c.in-Ok-Some.event c.in-Ok-Some.next (sym (rw c.in-Ok-Some.field-0-is at c.in-Ok-Some.ensures)) in
    (omega (arith, c.loop-event.invariant.0, r.longer), r.within)
