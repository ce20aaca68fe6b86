-- `print_events` ends: an event has two bytes at least, which the sheet has. The measure is what is left of the sheet.
use Rattle.std.proofs.Common.{length, ◌-◌, ◌≤◌}
use Rattle.sheet.proofs.print_events.Given as goal

abbrev pub invariant-loop-event : goal.invariant-loop-event
invariant-loop-event l = (l.count ≤ l.at) × (l.at ≤ length l.sheet)

abbrev pub decreases-loop-event : goal.decreases-loop-event
decreases-loop-event l = length l.sheet - l.at
