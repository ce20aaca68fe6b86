-- `print_in` stays within its buffer: the text fits, as the contract of `print_sheet` says.
use Rattle.std.proofs.Common.{length, arith}
use Rattle.std.proofs.lemmas.Bool.{leb-true}
use Rattle.linebook.proofs.print_in.Goals as goal

pub print_first-requires : goal.print_first-requires
print_first-requires c = omega (arith, leb-true c.in-Ok.count (length c.args.text.now) c.in-Ok.ensures.fits, c.print_sheet.auto.out)
