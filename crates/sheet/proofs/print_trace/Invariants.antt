-- `print_trace` ends: each step leaves the trace within the sheet, and further on. The measure is what is left of the sheet.
use Rattle.std.proofs.Common.{length, ◌-◌, ◌≡◌}
use Rattle.trace_text.specs.Steps.{Within}
use Rattle.sheet.proofs.print_trace.Given as goal

abbrev pub invariant-loop-book : goal.invariant-loop-book
invariant-loop-book l = Within l.tracing l.sheet × (65536 ≡ length l.book) × (65536 ≡ length l.out)

abbrev pub decreases-loop-book : goal.decreases-loop-book
decreases-loop-book l = length l.sheet - l.tracing.at
