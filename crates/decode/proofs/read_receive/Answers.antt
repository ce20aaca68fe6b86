-- Its fields in order.
use Rattle.std.proofs.Common.{refl, sym}
use Rattle.decode_fields.proofs.InOrder.{got}
use Rattle.decode.proofs.Bodies.{body_read}
use Rattle.decode.proofs.read_receive.Goals as goal

pub returns : goal.returns
returns c = body_read 3 refl (got (sym c.in-Some.ensures))
