-- Before turn i the waits of the first i lanes are joined.
use Rattle.std.proofs.Common.{◌≡◌, ◌≤◌}
use Rattle.limits.specs.Limits.{most_lanes}
use Rattle.wait_counts.specs.Counts.{grown_to}
use Rattle.wait_counts.proofs.grow.Given as goal

abbrev pub invariant-loop-i : goal.invariant-loop-i
invariant-loop-i l = (l.grown ≡ grown_to l.i l.fn.report l.counts) × (l.i ≤ most_lanes)
