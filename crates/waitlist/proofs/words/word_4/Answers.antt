-- Two words of two flags are one of four.
use Rattle.std.proofs.Common.{arith, sym}
use Rattle.waitlist.proofs.WordLaws.{gathered_lt, word_split}
use Rattle.waitlist.proofs.words.word_4.Goals as goal

pub overflow_mul-result : goal.overflow_mul-result
overflow_mul-result c = record { fits = omega (arith, gathered_lt _ _ _ _ 2 (omega arith) c.word_2.ensures) }

pub overflow_add-result : goal.overflow_add-result
overflow_add-result c = record { fits = omega (arith, gathered_lt _ _ _ _ 2 (omega arith) c.word_2.ensures, gathered_lt _ _ _ _ 2 (omega arith) c.word_2-2.ensures) }

pub returns : goal.returns
returns c = rw (c.word_2.ensures, c.word_2-2.ensures) (sym (word_split _ _ 2 2))
