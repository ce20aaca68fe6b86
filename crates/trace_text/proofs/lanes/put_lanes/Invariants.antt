-- The lines of the lanes so far are stored.
use Rattle.std.proofs.Common.{ℕ, get_or}
use Rattle.line.specs.Line.{idle_lane}
use Rattle.trace_text.specs.Trace.{lane_line}
use Rattle.trace_text.proofs.Texts.{SoFar}
use Rattle.trace_text.proofs.lanes.put_lanes.Given as goal

abbrev pub invariant-loop-i : goal.invariant-loop-i
invariant-loop-i l = SoFar (λ (k : ℕ). lane_line k (get_or l.line.lane k idle_lane).phase) 0 l.count 40 l.initial.out l.at l.out l.end l.i
