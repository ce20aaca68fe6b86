-- The sum so far and the lengths left make up the whole.
use Rattle.std.proofs.Common.{◌≡◌, ◌≤◌, ◌+◌, ◌*◌, drop}
use Rattle.lists.specs.Lists.{sum_of}
use Rattle.view.specs.declared.Block.{Block}
use Rattle.view.proofs.sum_of_lengths.Given as goal

abbrev pub invariant-loop-b : goal.invariant-loop-b
invariant-loop-b l =
    (l.sum + sum_of (λ (b : Block). b.length) (drop l.b-index l.block) ≡ sum_of (λ (b : Block). b.length) l.block) × (l.sum ≤ 65535 * l.b-index)
