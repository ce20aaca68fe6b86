-- `kind_text::put_taken` meets its contract: an arm for each answer to 04 take.
use Rattle.std.proofs.Common.{refl}
use Rattle.kind_text.proofs.Puts.{put, refused, region, room}
use Rattle.kind_text.proofs.put_taken.Goals as goal

pub put_region-requires : goal.put_region-requires
put_region-requires c = room c.args.answer c.args.at c.well_formed.1.1.0 c.requires (region c.in-Region.is c.from.ensures c.from-in-Region.ensures)

pub returns-in-Region : goal.returns-in-Region
returns-in-Region c = put c.well_formed.1.1.0 (region c.in-Region.is c.from.ensures c.from-in-Region.ensures) c.put_region.ensures

pub put_refused-requires : goal.put_refused-requires
put_refused-requires c = room c.args.answer c.args.at c.well_formed.1.1.0 c.requires (refused c.in-Refused.is)

pub returns-in-Refused : goal.returns-in-Refused
returns-in-Refused c = put c.well_formed.1.1.0 (refused c.in-Refused.is) c.put_refused.ensures

pub put_values-requires : goal.put_values-requires
put_values-requires c = room c.args.answer c.args.at c.well_formed.1.1.0 c.requires refl

pub returns-in_default : goal.returns-in_default
returns-in_default c = put c.well_formed.1.1.0 refl c.put_values.ensures
