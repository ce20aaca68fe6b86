-- `word_text::put_record` meets its contract: the word, the digits, the line end.
use Rattle.std.proofs.Common.{arith}
use Rattle.printout.specs.Text.{ascii}
use Rattle.printout.specs.Print.{hex_in, words}
use Rattle.number_text.proofs.Hex.{hex_length}
use Rattle.number_text.proofs.Stores.{and_then, one_byte, stored_length}
use Rattle.word_text.proofs.Words.{one_length, past}
use Rattle.word_text.proofs.put_record.Goals as goal

pub put_hex-end-requires : goal.put_hex-end-requires
put_hex-end-requires c =
    let word = c.put_word-next.ensures in
    let line = one_length (ascii "record") (hex_in 16 c.args.content) in
    omega (arith, c.requires, line, hex_length 16 c.args.content, past (ascii "record") _ word, stored_length word)

pub returns : goal.returns
unfolding words
returns c = and_then c.put_word-next.ensures (and_then c.put_hex-end.ensures (one_byte _ _ _))
