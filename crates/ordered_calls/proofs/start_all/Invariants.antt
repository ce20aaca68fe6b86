-- The lanes passed have started, and the rest start from the place reached; past the first n all are idle.
use Rattle.std.proofs.Common.{◌≡◌, ◌+◌, ◌*◌, ◌≤◌, ◌++◌, length, take, drop, true}
use Rattle.limits.specs.Limits.{most_lanes}
use Rattle.lists.specs.Lists.{all_pass}
use Rattle.line.specs.Line.{is_idle, on}
use Rattle.steps.specs.Effects.{started}
use Rattle.ordered_calls.proofs.start_all.Given as goal

abbrev pub invariant-loop-r : goal.invariant-loop-r
invariant-loop-r l = record {
  as_far : take l.r l.started ++ started l.at (drop l.r l.started) ≡ started l.fn.pointer l.fn.lanes;
  long : length l.started ≡ most_lanes;
  place : l.at ≤ l.fn.pointer + 65535 * l.r;
  past : all_pass (on is_idle) (drop l.fn.n l.started) ≡ true;
}
