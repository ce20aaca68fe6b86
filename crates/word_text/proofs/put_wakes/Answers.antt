-- `word_text::put_wakes` meets its contract: an arm for each case.
use Rattle.printout.specs.Print.{words}
use Rattle.word_text.proofs.put_wakes.Goals as goal

pub returns-in-None : goal.returns-in-None
unfolding words
returns-in-None c = rw c.in-None.is c.put_word.ensures
