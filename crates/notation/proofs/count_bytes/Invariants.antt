-- The bytes counted and those of what is left are all.
use Rattle.std.proofs.Common.{◌≡◌, ◌+◌, ◌≤◌, drop, length}
use Rattle.notation.specs.Notation.{Fits, bytes_from, notation_bytes}
use Rattle.notation.proofs.count_bytes.Given as goal

abbrev pub invariant-loop-c : goal.invariant-loop-c
invariant-loop-c l =
    (l.count + length (bytes_from l.state (drop l.c-index l.text)) ≡ length (notation_bytes l.text)) × (l.count ≤ l.c-index) × Fits l.state
