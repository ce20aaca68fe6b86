-- The digits before the last are of a tenth.
use Rattle.number_text.proofs.+put_long.Given as goal

abbrev pub decreases-put_long : goal.decreases-put_long
decreases-put_long l = l.n
