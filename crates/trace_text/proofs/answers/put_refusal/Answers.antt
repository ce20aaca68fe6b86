-- `put_refusal` meets its contract: the word, the number and the reason.
use native.Mathlib.Omega.{arith}
use Rattle.number_text.proofs.Stores.{and_then}
use Rattle.printout.specs.Print.{words}
use Rattle.trace_text.proofs.answers.put_refusal.Goals as goal

pub returns : goal.returns
unfolding words
returns c =
    let marked = rw c.from.ensures at c.put_marked-to_reason.ensures.0.both in
    (and_then c.word-next.ensures.0 (and_then marked c.put_reason.ensures.0), omega (arith, c.put_reason.ensures.1, c.put_marked-to_reason.ensures.1, c.word-next.ensures.1))
