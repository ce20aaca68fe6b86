-- What is left of the text, from the spot so far, ends where the whole does.
use Rattle.std.proofs.Common.{◌≡◌, ◌+◌, ◌≤◌, drop}
use Rattle.notation.specs.Notation.{spot_from, spot_of}
use Rattle.notation.proofs.spot_after.Given as goal

abbrev pub invariant-loop-c : goal.invariant-loop-c
invariant-loop-c l =
    (spot_from l.spot l.previous (drop l.c-index l.text) ≡ spot_of l.text) × (l.spot.line ≤ l.c-index + 1) × (l.spot.column ≤ l.c-index + 1)
