-- The blocks left are in order from the end so far just if all are.
use Rattle.std.proofs.Common.{◌≡◌, ◌≤◌, drop}
use Rattle.view.specs.View.{in_order}
use Rattle.view.proofs.in_order.Given as goal

abbrev pub invariant-loop-b : goal.invariant-loop-b
invariant-loop-b l = (in_order l.extent l.end (drop l.b-index l.block) ≡ in_order l.extent 0 l.block) × (l.end ≤ 131070)
