-- The equality of views is the test of the plain one.
use Rattle.std.proofs.Common.{◌∙◌}
use Rattle.lists.proofs.Parts.{length_unmapped}
use Rattle.soundness.proofs.Laws.{plain_view_is}
use Rattle.soundness.proofs.numbers.is_plain.Goals as goal

pub returns : goal.returns
returns c = c.eq.ensures ∙ plain_view_is c.args.view (search (length_unmapped, c.well_formed))
