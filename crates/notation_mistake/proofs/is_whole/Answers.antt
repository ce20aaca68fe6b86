-- At the sheet's end it is whole.
use Rattle.std.proofs.Common.{sym}
use Rattle.notation_mistake.proofs.Whole.{ends}
use Rattle.notation_mistake.proofs.is_whole.Goals as goal

pub returns-in-Ok-None : goal.returns-in-Ok-None
returns-in-Ok-None c = ends c.args.sheet.now c.loop-next.at c.loop-next.invariant (sym (rw c.in-Ok-None.field-0-is at c.in-Ok-None.ensures))
