-- The records left, stored from where the loop stands, give what all of them give.
use Rattle.std.proofs.Common.{◌≡◌, ◌+◌, ◌-◌}
use lib.Seq.{sets}
use Rattle.tiling.specs.Tiling.{records_from}
use Rattle.tiling.proofs.store_block.Given as goal

abbrev pub invariant-loop-i : goal.invariant-loop-i
invariant-loop-i l =
    sets l.records (l.at + l.i) (records_from (l.block.start + l.i) (l.block.length - l.i))
    ≡ sets l.fn.records l.at (records_from l.block.start l.block.length)
