-- Its fields in order.
use Rattle.std.proofs.Common.{refl, sym}
use mir.Facts.{to_z-of_z}
use Rattle.decode_fields.proofs.Signed.{signed_fits}
use Rattle.decode_fields.proofs.InOrder.{and_then, got}
use Rattle.decode.proofs.Bodies.{body_read}
use Rattle.decode.proofs.read_seek.Goals as goal

pub returns : goal.returns
returns c = rw (c.signed_of.ensures, to_z-of_z (signed_fits c.in-Some-read.offset)) (body_read 12 refl (and_then (got (sym c.in-Some.ensures)) (got (sym c.in-Some-read.ensures))))
