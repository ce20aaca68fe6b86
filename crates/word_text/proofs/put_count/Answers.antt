-- `word_text::put_count` meets its contract: one digit or two and the byte, or `put_number`.
use Rattle.std.proofs.Common.{arith}
use lib.ListN.{length-set}
use Rattle.number_text.proofs.Decimal.{last_length}
use Rattle.word_text.proofs.put_count.Goals as goal

pub bounds-out-at-then-n-lt10 : goal.bounds-out-at-then-n-lt10
bounds-out-at-then-n-lt10 c = simp length-set (omega (arith, last_length c.args.n c.if-n-lt10.true))
