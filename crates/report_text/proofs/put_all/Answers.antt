-- `put_all` meets its contract: the word, then the numbers.
use Rattle.std.proofs.Common.{arith}
use Rattle.printout.specs.Print.{words}
use Rattle.number_text.proofs.Stores.{and_then}
use Rattle.report_text.specs.Table.{row_line}
use Rattle.report_text.proofs.put_all.Goals as goal

pub returns : goal.returns
unfolding row_line words
returns c = (and_then c.put_word-next.ensures c.put_numbers.ensures.0, omega (arith, c.put_word-next.ensures.ends, c.put_numbers.ensures.1))
