-- The shift leaves out the flags of the first 16 lanes that stand below `start`.
use Rattle.waitlist.proofs.WordLaws.{from_start}
use Rattle.waitlist.proofs.words.first_in_word.Goals as goal

pub returns : goal.returns
returns c = rw (from_start _ _ _ c.gather-gathered.ensures)
