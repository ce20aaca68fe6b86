-- The records of the blocks left, stored from where the loop stands, make up the table.
use Rattle.std.proofs.Common.{◌≡◌, ◌≤◌, ◌+◌, ◌-◌, ◌++◌, drop, take, replicate, true}
use lib.Seq.{sets}
use Rattle.limits.specs.Limits.{most_extent}
use Rattle.lists.specs.Lists.{all_pass}
use Rattle.view.proofs.Laws.{lengths}
use Rattle.tiling.specs.Tiling.{shown_records}
use Rattle.tiling.proofs.Walk.{ends_in}
use Rattle.tiling.proofs.records_of.Given as goal

abbrev pub invariant-loop-b : goal.invariant-loop-b
invariant-loop-b l =
    (sets l.records l.at (shown_records (drop l.b-index (take l.fn.view.used l.fn.view.block)))
    ≡ shown_records (take l.fn.view.used l.fn.view.block) ++ replicate (most_extent - lengths (take l.fn.view.used l.fn.view.block)) 0)
    × (l.at + lengths (drop l.b-index (take l.fn.view.used l.fn.view.block)) ≤ most_extent)
    × (all_pass ends_in (drop l.b-index (take l.fn.view.used l.fn.view.block)) ≡ true)
