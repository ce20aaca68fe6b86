-- The flags and phases that are left agree where all do.
use Rattle.std.proofs.Common.{◌≡◌, drop, map}
use Rattle.lists.specs.Lists.{same_numbers}
use Rattle.line.specs.Line.{flag_for, on}
use Rattle.lane_tests.proofs.tallies.flags_ok.Given as goal

abbrev pub invariant-loop-i : goal.invariant-loop-i
invariant-loop-i l = same_numbers (drop l.i l.flag) (drop l.i (map (on flag_for) l.fn.lane)) ≡ same_numbers l.flag (map (on flag_for) l.fn.lane)
