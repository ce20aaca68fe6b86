-- `word_text::put_word` meets its contract: the word over its part of the buffer, then the byte.
use Rattle.std.proofs.Common.{arith, refl, ◌≡◌}
use Rattle.number_text.proofs.Stores.{and_then, one_byte, part_stored}
use Rattle.word_text.proofs.put_word.Goals as goal

pub returns : goal.returns
returns c =
    let a = c.args in
    let same : c.copy_from_slice.new.self ≡ a.word.now = c.copy_from_slice.ensures.after in
    and_then (part_stored a.out.now a.word.now c.copy_from_slice.new.self a.at _ same (omega arith) refl) (one_byte _ _ a.after)
