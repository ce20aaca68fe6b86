-- `put_header` meets its contract: its bytes are those of the cells.
use Rattle.std.proofs.Common.{arith}
use Rattle.printout.specs.Print.{words}
use Rattle.report_text.proofs.put_header.Goals as goal

pub returns : goal.returns
unfolding words
returns c =
    let line = c.put_word.ensures in
    (line, omega (arith, line.ends))
