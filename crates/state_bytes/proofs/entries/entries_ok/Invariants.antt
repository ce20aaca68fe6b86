-- The entries left pass where all do.
use Rattle.std.proofs.Common.{◌≡◌, drop}
use Rattle.lists.specs.Lists.{all_pass}
use Rattle.state_bytes.specs.StateBytes.{entries_in, is_entry}
use Rattle.state_bytes.proofs.Walk.{entries_from}
use Rattle.state_bytes.proofs.entries.entries_ok.Given as goal

abbrev pub invariant-loop-i : goal.invariant-loop-i
invariant-loop-i l = all_pass is_entry (entries_from l.bytes 64 128 l.i) ≡ all_pass is_entry (entries_in 128 (drop 64 l.bytes))
