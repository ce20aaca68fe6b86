-- `put_tail` meets its contract: a word, a column of the pointer, a word and the size.
use native.Mathlib.Omega.{arith}
use Rattle.number_text.proofs.Stores.{and_then}
use Rattle.printout.specs.Print.{decimal}
use Rattle.trace_text.proofs.Widths.{columned}
use Rattle.trace_text.proofs.results.put_tail.Goals as goal

pub returns : goal.returns
returns c =
    let place = columned 5 (decimal c.from.result) c.number-end.ensures.0 c.end_column-next.ensures.0 in
    let place-text = rw c.from.ensures at place in
    let size-text = rw c.from-2.ensures at c.number.ensures.0 in (
      and_then c.word-to_place.ensures.0 (and_then place-text (and_then c.word-to_size.ensures.0 size-text)),
      omega (arith, c.number.ensures.1, c.word-to_size.ensures.1, c.end_column-next.ensures.1, c.number-end.ensures.1, c.word-to_place.ensures.1),
    )
