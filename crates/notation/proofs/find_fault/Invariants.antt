-- What is left of the text has the fault that the whole has.
use Rattle.std.proofs.Common.{◌≡◌, drop}
use Rattle.notation.specs.Notation.{Fits, fault_from, fault_of}
use Rattle.notation.proofs.find_fault.Given as goal

abbrev pub invariant-loop-i : goal.invariant-loop-i
invariant-loop-i l = (fault_from l.i l.state (drop l.i l.text) ≡ fault_of l.text) × Fits l.state
