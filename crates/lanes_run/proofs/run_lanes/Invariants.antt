-- The run has gone on from where the part began, with what it changes of the line in locals, the counts of the lanes, and the number of the next line.
use Rattle.std.proofs.Common.{◌≡◌, ◌-◌, length}
use Rattle.lane_tests.specs.Rules.{counts_of}
use Rattle.steps.specs.Meets.{state_of}
use Rattle.line_number.specs.Numbered.{Keeps, number_in}
use Rattle.lanes_run.specs.Parts.{Advanced, line_now}
use Rattle.lanes_run.proofs.run_lanes.Given as goal

abbrev pub invariant-loop-head : goal.invariant-loop-head
invariant-loop-head l =
    (Advanced l.sheet (state_of l.line l.fn.book) l.fn.out l.fn.waits l.initial.at l.initial.length (number_in l.initial.number) (line_now l.line l.size l.pointer l.lane l.flag) l.book l.out l.waits l.at l.length (number_in l.number))
    × (l.counts ≡ counts_of l.lane)
    × Keeps (number_in l.number) l.number

abbrev pub decreases-loop-head : goal.decreases-loop-head
decreases-loop-head l = length l.sheet - l.at
