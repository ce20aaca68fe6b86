-- What is left of the bytes opens notation where all past the mark do.
use Rattle.std.proofs.Common.{◌≡◌, drop}
use Rattle.notation.specs.Notation.{looks_like_notation, opens_notation}
use Rattle.notation.proofs.looks_like_notation.Given as goal

abbrev pub invariant-loop-c : goal.invariant-loop-c
invariant-loop-c l = opens_notation (drop l.c-index l.c-items) ≡ looks_like_notation l.sheet
