-- `word_text::put_region` meets its contract: the word, the numbers, the wake.
use Rattle.printout.specs.Print.{decimal, words}
use Rattle.number_text.proofs.Stores.{and_then}
use Rattle.word_text.proofs.Words.{before_wakes}
use Rattle.word_text.proofs.put_region.Goals as goal

pub returns : goal.returns
unfolding words
returns c =
    rw (before_wakes (decimal c.args.count) c.args.wakes)
    (and_then c.put_word-first.ensures (and_then c.put_number-second.ensures (and_then c.put_count-third.ensures c.put_wakes.ensures)))
