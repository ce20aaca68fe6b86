-- Two words of eight flags are one of sixteen.
use Rattle.std.proofs.Common.{arith, sym}
use Rattle.waitlist.proofs.WordLaws.{gathered_lt, word_split}
use Rattle.waitlist.proofs.words.word_16.Goals as goal

pub overflow_mul-result : goal.overflow_mul-result
overflow_mul-result c = record { fits = omega (arith, gathered_lt _ _ _ _ 8 (omega arith) c.word_8.ensures) }

pub overflow_add-result : goal.overflow_add-result
overflow_add-result c = record { fits = omega (arith, gathered_lt _ _ _ _ 8 (omega arith) c.word_8.ensures, gathered_lt _ _ _ _ 8 (omega arith) c.word_8-2.ensures) }

pub returns : goal.returns
returns c = rw (c.word_8.ensures, c.word_8-2.ensures) (sym (word_split _ _ 8 8))
