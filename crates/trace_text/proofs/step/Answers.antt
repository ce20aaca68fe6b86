-- After an event the trace is within the sheet, and further on.
use Rattle.std.proofs.Common.{sym}
use Rattle.trace_text.proofs.Within.{event_goes_on}
use Rattle.trace_text.proofs.step.Goals as goal

pub returns-in-Ok-Some-clause-goes_on : goal.returns-in-Ok-Some-clause-goes_on
returns-in-Ok-Some-clause-goes_on c =
    event_goes_on c.args.from c.args.sheet.now c.args.book.now _ _ _ c.requires.within (sym (rw c.in-Ok-Some.field-0-is at c.in-Ok-Some.ensures)) c.step_event.ensures.next
