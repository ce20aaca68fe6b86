-- A column of the number.
use Rattle.std.proofs.Common.{arith}
use Rattle.printout.specs.Print.{decimal}
use Rattle.trace_text.proofs.Widths.{columned}
use Rattle.trace_text.proofs.put_event_number.Goals as goal

pub returns : goal.returns
returns c = (columned 4 (decimal c.args.count) c.number-end.ensures.0 c.end_column.ensures.0, omega (arith, c.end_column.ensures.1, c.number-end.ensures.1))
