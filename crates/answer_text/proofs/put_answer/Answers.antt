-- `answer_text::put_answer` meets its contract: the number, then the answer.
use Rattle.std.proofs.Common.{arith}
use Rattle.printout.specs.Print.{answer_line, decimal}
use Rattle.number_text.specs.Stored.{Stored}
use Rattle.number_text.proofs.Stores.{and_then, stored_length}
use Rattle.word_text.proofs.Words.{past}
use Rattle.answer_text.proofs.Answers.{answer_length_lem, before_answer}
use Rattle.answer_text.proofs.Lengths.{line_short}
use Rattle.answer_text.proofs.put_answer.Goals as goal

-- the line is short enough
pub put_number-next-requires : goal.put_number-next-requires
put_number-next-requires c =
    let a = c.args in
    let short = line_short a.number a.answer _ (omega arith) c.well_formed.1.1.1.0 in
    omega (arith, c.requires, answer_length_lem (decimal a.number) a.answer, short)

pub put_values-requires : goal.put_values-requires
put_values-requires c =
    let a = c.args in
    let number = c.put_number-next.ensures in
    let short = line_short a.number a.answer _ (omega arith) c.well_formed.1.1.1.0 in
    omega (arith, c.requires, past (decimal a.number) _ number, stored_length number, answer_length_lem (decimal a.number) a.answer, short)

pub returns : goal.returns
returns c =
    let a = c.args in
    let line : Stored (answer_line a.number a.answer) a.out.now a.at c.put_values.new.out c.put_values.result =
    rw (before_answer (decimal a.number) a.answer) (and_then c.put_number-next.ensures c.put_values.ensures) in
    let short = line_short a.number a.answer _ (omega arith) c.well_formed.1.1.1.0 in
    (line, omega (arith, line.ends, short))
