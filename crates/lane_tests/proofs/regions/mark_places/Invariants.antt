-- The words so far are marked, and what is left is free where all places were.
use Rattle.lane_tests.proofs.Places.{MarkingWords}
use Rattle.lane_tests.proofs.regions.mark_places.Given as goal

abbrev pub invariant-loop-i : goal.invariant-loop-i
invariant-loop-i l = MarkingWords l.fn.words l.words l.first l.count l.i
