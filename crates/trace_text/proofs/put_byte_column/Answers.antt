-- `put_byte_column` meets its contract: a column of two words.
use mathlib.Core.List.{[], ◌∷◌}
use native.Mathlib.Omega.{arith}
use Rattle.printout.specs.Print.{decimal, words}
use Rattle.printout.specs.Text.{ascii}
use Rattle.trace_text.proofs.Widths.{columned_words}
use Rattle.trace_text.proofs.put_byte_column.Goals as goal

pub returns : goal.returns
unfolding words
returns c = (
  columned_words (ascii "at byte") (decimal c.args.byte ∷ []) c.named-end.ensures.0.both 39 c.end_column.ensures.0,
  omega (arith, c.end_column.ensures.1, c.named-end.ensures.1),
)
