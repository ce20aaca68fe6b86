-- The regions that are left are free and apart where all are.
use Rattle.std.proofs.Common.{◌≡◌, length, drop}
use Rattle.lane_tests.specs.Places.{regions_free}
use Rattle.lane_tests.proofs.regions.mark_lanes.Given as goal

abbrev pub invariant-loop-l : goal.invariant-loop-l
invariant-loop-l l = (length l.words ≡ 1024) × (regions_free l.words (drop l.l-index l.fn.lane) ≡ regions_free l.fn.words l.fn.lane)
