-- `kind_text::put_written` meets its contract: an arm for each answer to 05 write and 07 put.
use Rattle.std.proofs.Common.{refl}
use Rattle.kind_text.proofs.Puts.{put, refused, room, wrote}
use Rattle.kind_text.proofs.put_written.Goals as goal

pub put_one-requires : goal.put_one-requires
put_one-requires c = room c.args.answer c.args.at c.well_formed.1.1.0 c.requires (wrote c.in-Wrote.is)

pub returns-in-Wrote : goal.returns-in-Wrote
returns-in-Wrote c = put c.well_formed.1.1.0 (wrote c.in-Wrote.is) c.put_one.ensures

pub put_refused-requires : goal.put_refused-requires
put_refused-requires c = room c.args.answer c.args.at c.well_formed.1.1.0 c.requires (refused c.in-Refused.is)

pub returns-in-Refused : goal.returns-in-Refused
returns-in-Refused c = put c.well_formed.1.1.0 (refused c.in-Refused.is) c.put_refused.ensures

pub put_values-requires : goal.put_values-requires
put_values-requires c = room c.args.answer c.args.at c.well_formed.1.1.0 c.requires refl

pub returns-in_default : goal.returns-in_default
returns-in_default c = put c.well_formed.1.1.0 refl c.put_values.ensures
