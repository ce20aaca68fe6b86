-- `kind_text::put_read` meets its contract: an arm for each answer to 06 read and 08 look.
use Rattle.std.proofs.Common.{refl}
use Rattle.kind_text.proofs.Puts.{put, recorded, refused, room}
use Rattle.kind_text.proofs.put_read.Goals as goal

pub put_record-requires : goal.put_record-requires
put_record-requires c = room c.args.answer c.args.at c.well_formed.1.1.0 c.requires (recorded c.in-Record.is)

pub returns-in-Record : goal.returns-in-Record
returns-in-Record c = put c.well_formed.1.1.0 (recorded c.in-Record.is) c.put_record.ensures

pub put_refused-requires : goal.put_refused-requires
put_refused-requires c = room c.args.answer c.args.at c.well_formed.1.1.0 c.requires (refused c.in-Refused.is)

pub returns-in-Refused : goal.returns-in-Refused
returns-in-Refused c = put c.well_formed.1.1.0 (refused c.in-Refused.is) c.put_refused.ensures

pub put_values-requires : goal.put_values-requires
put_values-requires c = room c.args.answer c.args.at c.well_formed.1.1.0 c.requires refl

pub returns-in_default : goal.returns-in_default
returns-in_default c = put c.well_formed.1.1.0 refl c.put_values.ensures
