-- The records so far and those left make up the whole.
use Rattle.std.proofs.Common.{◌≡◌, ◌≤◌, ◌+◌, ◌-◌, ◌*◌, min, drop}
use Rattle.lists.specs.Lists.{sum_of}
use Rattle.view.specs.declared.Block.{Block}
use Rattle.view.proofs.shown_before.Given as goal

abbrev pub invariant-loop-b : goal.invariant-loop-b
invariant-loop-b l =
    (l.total + sum_of (λ (b : Block). min b.length (l.cut - b.start)) (drop l.b-index l.block)
    ≡ sum_of (λ (b : Block). min b.length (l.cut - b.start)) l.block)
    × (l.total ≤ 65535 * l.b-index)
