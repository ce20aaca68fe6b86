-- `kind_text::put_entered` meets its contract: an arm for each answer to 0A enter.
use Rattle.std.proofs.Common.{refl}
use Rattle.kind_text.proofs.Puts.{ordered, put, refused, room}
use Rattle.kind_text.proofs.put_entered.Goals as goal

pub put_two-requires : goal.put_two-requires
put_two-requires c = room c.args.answer c.args.at c.well_formed.1.1.0 c.requires (ordered c.in-Ordered.is c.from.ensures c.from-in-Ordered.ensures)

pub returns-in-Ordered : goal.returns-in-Ordered
returns-in-Ordered c = put c.well_formed.1.1.0 (ordered c.in-Ordered.is c.from.ensures c.from-in-Ordered.ensures) c.put_two.ensures

pub put_refused-requires : goal.put_refused-requires
put_refused-requires c = room c.args.answer c.args.at c.well_formed.1.1.0 c.requires (refused c.in-Refused.is)

pub returns-in-Refused : goal.returns-in-Refused
returns-in-Refused c = put c.well_formed.1.1.0 (refused c.in-Refused.is) c.put_refused.ensures

pub put_values-requires : goal.put_values-requires
put_values-requires c = room c.args.answer c.args.at c.well_formed.1.1.0 c.requires refl

pub returns-in_default : goal.returns-in_default
returns-in_default c = put c.well_formed.1.1.0 refl c.put_values.ensures
