-- The lines that are left, stored from where the loop stands, give what all give.
use Rattle.report_text.proofs.Lanes.{LanesLeft}
use Rattle.report_text.proofs.put_lanes.Given as goal

abbrev pub invariant-loop-lane : goal.invariant-loop-lane
invariant-loop-lane l = LanesLeft l.fn.lanes l.initial.out l.at l.out l.end l.lane
