-- The letters of the lanes that are left, stored from where the loop stands, give the row.
use Rattle.std.proofs.Common.{◌≡◌, ◌+◌, drop, length, take}
use mathlib.Core.List.{map}
use Rattle.std.proofs.lemmas.List.Edits.{sets}
use Rattle.line.specs.Line.{on}
use Rattle.trace_text.specs.TraceLine.{letter_of}
use Rattle.trace_text.proofs.lanes.put_row.Given as goal

abbrev pub invariant-loop-i : goal.invariant-loop-i
invariant-loop-i l =
    (sets l.out (l.at + l.i) (map (on letter_of) (drop l.i (take l.count l.line.lane))) ≡ sets l.initial.out l.at (map (on letter_of) (take l.count l.line.lane)))
    × (length l.out ≡ length l.initial.out)
