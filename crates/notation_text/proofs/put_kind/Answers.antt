-- The byte, then the words.
use Rattle.std.proofs.Common.{[], ◌∷◌, append_assoc, arith}
use Rattle.number_text.proofs.Stores.{and_then}
use Rattle.printout.specs.Text.{ascii}
use Rattle.printout.specs.Print.{hex_in}
use Rattle.notation_text.proofs.put_kind.Goals as goal

pub returns : goal.returns
returns c =
    let seam = append_assoc (hex_in 2 c.args.c) (58 ∷ []) (ascii " the text looks like a sheet's bytes already\n") in
    (rw seam at (and_then c.put_byte-next.ensures.0 c.put_word.ensures), omega (arith, c.put_byte-next.ensures.1, c.put_word.ensures.ends))
