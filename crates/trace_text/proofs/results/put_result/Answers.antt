-- A column of the answer, the row, then the pointer and the size.
use Rattle.std.proofs.Common.{arith}
use Rattle.number_text.proofs.Stores.{and_then}
use Rattle.trace_text.proofs.Widths.{columned, ends_past, told_joined}
use Rattle.trace_text.specs.TraceLine.{joined, told_words}
use Rattle.trace_text.proofs.results.put_result.Goals as goal

pub end_column-row-requires : goal.end_column-row-requires
end_column-row-requires c =
    (ends_past (joined (told_words c.args.answer)) 10 (rw (told_joined c.args.answer) at c.put_told-end.ensures.0), omega (arith, c.put_told-end.ensures.1, c.requires))

pub returns : goal.returns
returns c =
    let answer = columned 36 (joined (told_words c.args.answer)) (rw (told_joined c.args.answer) at c.put_told-end.ensures.0) c.end_column-row.ensures.0 in (
      and_then answer (and_then c.put_row-tail.ensures.0 c.put_tail.ensures.0),
      omega (arith, c.put_tail.ensures.1, c.put_row-tail.ensures.1, c.end_column-row.ensures.1, c.put_told-end.ensures.1),
    )
