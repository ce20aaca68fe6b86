-- The bytes that a parse stored are within the buffer.
use Rattle.std.proofs.Common.{length, arith, sym}
use Rattle.notation.proofs.Exits.{parsed_fits}
use Rattle.sheet.proofs.print_bytes.Goals as goal

pub print_first-requires : goal.print_first-requires
print_first-requires c =
    let fits = parsed_fits c.args.text.now (length c.bytes_buffer-bytes.result) c.in-Ok.count (sym c.in-Ok.ensures.0) in
    omega (arith, fits, c.parse.auto.out)
