-- `put_table` meets its contract: the header, the lines of the lanes, the line for all.
use Rattle.std.proofs.Common.{arith}
use Rattle.number_text.proofs.Stores.{and_then}
use Rattle.report_text.proofs.put_table.Goals as goal

pub returns : goal.returns
returns c =
    (and_then c.put_header-to_lanes.ensures.0 (and_then c.put_lanes-to_all.ensures.0 c.put_all.ensures.0), omega (arith, c.put_header-to_lanes.ensures.1, c.put_lanes-to_all.ensures.1, c.put_all.ensures.1))
