-- The run has gone on from the start to where it stands. The text grows by a line at least, which bounds the turns.
use Rattle.std.proofs.Common.{◌-◌, ◌*◌, length}
use Rattle.steps.specs.Meets.{state_of}
use Rattle.wait_counts.specs.Counts.{no_counts}
use Rattle.answer_text.specs.Printing.{most_line}
use Rattle.lanes_run.specs.Parts.{Advanced}
use Rattle.run.proofs.run_sound.Given as goal

abbrev pub invariant-loop-found : goal.invariant-loop-found
invariant-loop-found l =
    Advanced l.sheet (state_of l.fn.line l.fn.book) l.fn.out no_counts 0 0 0 l.from.line l.book l.out l.waits l.from.at l.from.length l.from.number

abbrev pub decreases-loop-found : goal.decreases-loop-found
decreases-loop-found l = most_line * length l.sheet - l.from.length
