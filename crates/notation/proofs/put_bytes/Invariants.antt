-- The bytes of what is left, stored from where the loop stands, give what all bytes give.
use Rattle.std.proofs.Common.{◌≡◌, ◌+◌, drop, length}
use Rattle.std.proofs.lemmas.List.Edits.{sets}
use Rattle.notation.specs.Notation.{Fits, bytes_from, notation_bytes}
use Rattle.notation.proofs.put_bytes.Given as goal

abbrev pub invariant-loop-c : goal.invariant-loop-c
invariant-loop-c l =
    (sets l.out l.end (bytes_from l.state (drop l.c-index l.text)) ≡ sets l.initial.out 0 (notation_bytes l.text))
    × (l.end + length (bytes_from l.state (drop l.c-index l.text)) ≡ length (notation_bytes l.text))
    × Fits l.state
