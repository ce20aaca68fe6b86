-- The text of a run: the most bytes that it takes, and its last lines. Tied to `run` and `printed` by run/Going: ends, and run/Last: refused_run.
use Rattle.std.specs.Prelude.{ℕ, Option, Some, None, ◌+◌, ◌*◌, List, ◌++◌}
use Rattle.line.specs.declared.Line.{Line}
use Rattle.steps.specs.declared.Answer.{Answer}
use Rattle.printout.specs.Print.{answer_line, end_line_of}
use Rattle.answer_text.specs.Printing.{most_line}

-- the last two lines at most
abbrev pub most_last : ℕ
most_last = most_line + most_line

-- no text is longer than this, for a sheet of n bytes: an event has a byte at least; the last two lines are counted apart
abbrev pub most_text : ℕ → ℕ
most_text n = most_line * n + most_last

-- the last lines: the refusal that ended the run, where one did, as event k, and then `end`
abbrev pub last_lines : ℕ → Option ℕ → Line → List ℕ
last_lines k None l = end_line_of l.size l.pointer
last_lines k (Some n) l = answer_line k (Answer.Refused n) ++ end_line_of l.size l.pointer
