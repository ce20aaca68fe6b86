-- `put_accepted` meets its contract: the count, then the word.
use borrow.Author.Rules.{rules}
use Rattle.number_text.proofs.Stores.{and_then}
use Rattle.printout.specs.Print.{words}
use Rattle.trace_text.proofs.summary.put_accepted.Goals as goal

pub returns : goal.returns
unfolding words
returns c = search (and_then, rules)
