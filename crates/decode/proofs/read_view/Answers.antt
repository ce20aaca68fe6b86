-- Its fields in order.
use Rattle.std.proofs.Common.{rules, refl, sym}
use lib.Dec.{lit<}
use Rattle.decode_fields.proofs.InOrder.{and_then, cut_later, got, missed}
use Rattle.decode.proofs.Bodies.{body_cut, view_read}
use Rattle.decode.proofs.read_view.Goals as goal

pub returns-in_default-read-3 : goal.returns-in_default-read-3
returns-in_default-read-3 c = body_cut 11 refl (lit< tt) (cut_later (got (sym c.in-Some.ensures)) (cut_later (got (sym c.in-Some-read.ensures)) (cut_later (got (sym c.in-Some-read-2.ensures)) (missed (sym c.in_default-read-3.ensures)))))

pub returns : goal.returns
returns c =
    view_read _ _ _ _ _ _ _ (search rules)
    (and_then (got (sym c.in-Some.ensures)) (and_then (got (sym c.in-Some-read.ensures)) (and_then (got (sym c.in-Some-read-2.ensures)) (got (sym c.in-Some-read-3.ensures)))))
