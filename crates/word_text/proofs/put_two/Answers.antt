-- `word_text::put_two` meets its contract: the word, then the numbers.
use Rattle.printout.specs.Print.{words}
use Rattle.number_text.proofs.Stores.{and_then}
use Rattle.word_text.proofs.put_two.Goals as goal

pub returns : goal.returns
unfolding words
returns c = and_then c.put_word-first.ensures (and_then c.put_number-second.ensures c.put_number.ensures)
