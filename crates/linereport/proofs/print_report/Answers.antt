-- `print_report` stays within its buffer: the table fits, as the contract of `print_table` says.
use Rattle.std.proofs.Common.{arith}
use Rattle.linereport.proofs.print_report.Goals as goal

pub print_first-requires : goal.print_first-requires
print_first-requires c = omega (arith, c.print_table.ensures.fits c.in-Ok.count c.in-Ok.is, c.print_table.auto.out)
