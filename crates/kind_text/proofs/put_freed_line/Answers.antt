-- `kind_text::put_freed_line` meets its contract: an arm for each answer to 09 free.
use Rattle.std.proofs.Common.{refl}
use Rattle.kind_text.proofs.Puts.{freed, put, refused, room}
use Rattle.kind_text.proofs.put_freed_line.Goals as goal

pub put_freed-requires : goal.put_freed-requires
put_freed-requires c = room c.args.answer c.args.at c.well_formed.1.1.0 c.requires (freed c.in-Freed.is)

pub returns-in-Freed : goal.returns-in-Freed
returns-in-Freed c = put c.well_formed.1.1.0 (freed c.in-Freed.is) c.put_freed.ensures

pub put_refused-requires : goal.put_refused-requires
put_refused-requires c = room c.args.answer c.args.at c.well_formed.1.1.0 c.requires (refused c.in-Refused.is)

pub returns-in-Refused : goal.returns-in-Refused
returns-in-Refused c = put c.well_formed.1.1.0 (refused c.in-Refused.is) c.put_refused.ensures

pub put_values-requires : goal.put_values-requires
put_values-requires c = room c.args.answer c.args.at c.well_formed.1.1.0 c.requires refl

pub returns-in_default : goal.returns-in_default
returns-in_default c = put c.well_formed.1.1.0 refl c.put_values.ensures
