-- Where the loop stands the sheet is whole just as from its start. The measure is what is left of the sheet.
use Rattle.std.proofs.Common.{◌-◌, length}
use Rattle.notation_mistake.proofs.Whole.{Reached}
use Rattle.notation_mistake.proofs.is_whole.Given as goal

abbrev pub invariant-loop-next : goal.invariant-loop-next
invariant-loop-next l = Reached l.sheet l.at

abbrev pub decreases-loop-next : goal.decreases-loop-next
decreases-loop-next l = length l.sheet - l.at
