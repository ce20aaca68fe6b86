-- At first no place is marked.
use Rattle.std.proofs.Common.{◌∙◌}
use Rattle.lane_tests.proofs.Apart.{none_marked}
use Rattle.lane_tests.proofs.regions.regions_apart.Goals as goal

pub returns : goal.returns
returns c = c.mark_lanes.ensures ∙ none_marked 1024 c.args.lane
