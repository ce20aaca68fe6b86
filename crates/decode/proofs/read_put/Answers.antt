-- Its fields in order.
use Rattle.std.proofs.Common.{refl, sym}
use Rattle.decode_fields.proofs.InOrder.{and_then, got}
use Rattle.decode.proofs.Bodies.{body_read}
use Rattle.decode.proofs.read_put.Goals as goal

pub returns : goal.returns
returns c = body_read 7 refl (and_then (got (sym c.in-Some.ensures)) (and_then (got (sym c.in-Some-read.ensures)) (got (sym c.in-Some-read-2.ensures))))
