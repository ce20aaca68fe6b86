-- `word_text::put_one` meets its contract: the word, then the number.
use Rattle.printout.specs.Print.{words}
use Rattle.number_text.proofs.Stores.{and_then}
use Rattle.word_text.proofs.put_one.Goals as goal

pub returns : goal.returns
unfolding words
returns c = and_then c.put_word-next.ensures c.put_number.ensures
