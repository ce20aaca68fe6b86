-- The row for all has room for one lane's waits more.
use Rattle.wait_counts.proofs.Growing.{joins_all}
use Rattle.wait_counts.proofs.grow.Goals as goal

pub join_waits-grown-requires : goal.join_waits-grown-requires
join_waits-grown-requires c = joins_all c.args.report c.args.counts.now c.requires c.loop-i.grown c.loop-i.i c.loop-i.invariant.0 c.loop-i-test.true
