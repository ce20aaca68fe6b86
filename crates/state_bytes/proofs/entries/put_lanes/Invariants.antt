-- The entries left, stored from where the loop stands, make up all of them.
use Rattle.std.proofs.Common.{◌≡◌, ◌+◌, ◌*◌, drop, length}
use Rattle.std.proofs.lemmas.List.Edits.{sets}
use Rattle.state_bytes.specs.StateBytes.{entries_of}
use Rattle.state_bytes.proofs.entries.put_lanes.Given as goal

abbrev pub invariant-loop-lane : goal.invariant-loop-lane
invariant-loop-lane l =
    (sets l.bytes l.at (entries_of (drop l.lane-index l.fn.lanes)) ≡ sets l.fn.bytes 64 (entries_of l.fn.lanes))
    × (length l.bytes ≡ length l.fn.bytes)
    × (l.at ≡ 64 + 8 * l.lane-index)
