-- `put_flags` meets its contract: the flags in their part of the bytes.
use Rattle.std.proofs.Common.{rules}
use Rattle.state_bytes.proofs.Walk.{part_stored}
use Rattle.state_bytes.proofs.flags.put_flags.Goals as goal

pub returns : goal.returns
returns c = rw c.copy_from_slice.ensures.after (part_stored c.args.bytes.now c.args.flags 1088 128 (search rules) c.requires)
