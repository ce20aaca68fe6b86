-- The flags that are left are down where all are.
use Rattle.std.proofs.Common.{◌≡◌, drop, set, eqb}
use Rattle.lists.specs.Lists.{all_pass}
use Rattle.waitlist.proofs.down_but.Given as goal

abbrev pub invariant-loop-i : goal.invariant-loop-i
invariant-loop-i l = all_pass (eqb 0) (drop l.i (set l.flags l.own 0)) ≡ all_pass (eqb 0) (set l.flags l.own 0)
