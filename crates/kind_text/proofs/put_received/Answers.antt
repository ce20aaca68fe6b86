-- `kind_text::put_received` meets its contract: an arm for each answer to 03 receive.
use Rattle.std.proofs.Common.{refl}
use Rattle.kind_text.proofs.Puts.{holds, put, refused, room}
use Rattle.kind_text.proofs.put_received.Goals as goal

pub put_one-requires : goal.put_one-requires
put_one-requires c = room c.args.answer c.args.at c.well_formed.1.1.0 c.requires (holds c.in-Holds.is c.from.ensures)

pub returns-in-Holds : goal.returns-in-Holds
returns-in-Holds c = put c.well_formed.1.1.0 (holds c.in-Holds.is c.from.ensures) c.put_one.ensures

pub put_refused-requires : goal.put_refused-requires
put_refused-requires c = room c.args.answer c.args.at c.well_formed.1.1.0 c.requires (refused c.in-Refused.is)

pub returns-in-Refused : goal.returns-in-Refused
returns-in-Refused c = put c.well_formed.1.1.0 (refused c.in-Refused.is) c.put_refused.ensures

pub put_values-requires : goal.put_values-requires
put_values-requires c = room c.args.answer c.args.at c.well_formed.1.1.0 c.requires refl

pub returns-in_default : goal.returns-in_default
returns-in_default c = put c.well_formed.1.1.0 refl c.put_values.ensures
