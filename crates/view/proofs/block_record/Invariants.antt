-- The record left, among the blocks left, is the record of all.
use Rattle.std.proofs.Common.{◌≡◌, drop}
use Rattle.view.specs.View.{block_record}
use Rattle.view.proofs.block_record.Given as goal

abbrev pub invariant-loop-b : goal.invariant-loop-b
invariant-loop-b l = block_record (drop l.b-index l.block) l.left ≡ block_record l.block l.q
