-- A count so far and that of the lanes left make the whole count, and bounds, so that no sum wraps.
use Rattle.std.proofs.Common.{◌≡◌, ◌+◌, ◌*◌, ◌≤◌, drop}
use Rattle.lists.specs.Lists.{count_pass, sum_of}
use Rattle.line.specs.Line.{count_in, has_turn, is_gathered, on}
use Rattle.lane_tests.specs.Rules.{flag_is_one}
use Rattle.lane_tests.proofs.tallies.tally_of.Given as goal

abbrev pub invariant-loop-l : goal.invariant-loop-l
invariant-loop-l l =
    (l.flagged + count_pass (on flag_is_one) (drop l.l-index l.fn.lane) ≡ count_pass (on flag_is_one) l.fn.lane)
    × (l.turns + count_pass (on has_turn) (drop l.l-index l.fn.lane) ≡ count_pass (on has_turn) l.fn.lane)
    × (l.gathered + count_pass (on is_gathered) (drop l.l-index l.fn.lane) ≡ count_pass (on is_gathered) l.fn.lane)
    × (l.total + sum_of (on count_in) (drop l.l-index l.fn.lane) ≡ sum_of (on count_in) l.fn.lane)
    × (l.flagged ≤ l.l-index)
    × (l.turns ≤ l.l-index)
    × (l.gathered ≤ l.l-index)
    × (l.total ≤ 65535 * l.l-index)
