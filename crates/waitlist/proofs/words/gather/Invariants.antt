-- What is gathered is the word of the first 16 times `i` flags.
use Rattle.std.proofs.Common.{◌≡◌, ◌*◌}
use Rattle.waitlist.specs.Words.{word}
use Rattle.waitlist.proofs.words.gather.Given as goal

abbrev pub invariant-loop-i : goal.invariant-loop-i
invariant-loop-i l = l.gathered ≡ word l.flags l.first (16 * l.i)
