-- Its fields in order.
use Rattle.std.proofs.Common.{refl, sym}
use Rattle.decode_fields.proofs.InOrder.{got}
use Rattle.decode.proofs.Bodies.{body_read}
use Rattle.decode.proofs.read_read.Goals as goal

pub returns : goal.returns
returns c = body_read 6 refl (got (sym c.in-Some.ensures))
