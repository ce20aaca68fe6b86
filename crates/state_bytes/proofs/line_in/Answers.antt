-- `line_in` meets its contract: part after part.
use Rattle.std.proofs.Common.{rules}
use Rattle.decode_fields.proofs.Numbers.{number_of_one}
use Rattle.state_bytes.proofs.line_in.Goals as goal

pub returns : goal.returns
returns c =
    rw (c.number32.ensures.0, c.number32-2.ensures.0, c.pointer_in.ensures, c.view_in.ensures, c.lanes_in.ensures, c.flags_in.ensures, number_of_one c.args.bytes.now 8 (search rules))
