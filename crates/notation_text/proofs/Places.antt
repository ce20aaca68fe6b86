-- The place of a message: its four parts stored one after the other.
use Prim.Native.Nat.{ℕ, ◌≤◌}
use mathlib.Core.List.{List, [], ◌∷◌, ◌++◌, append_assoc}
use native.Mathlib.Omega.{arith}
use lib.ListN.{length}
use Rattle.number_text.specs.Stored.{Stored}
use Rattle.number_text.proofs.Stores.{and_then}
use Rattle.printout.specs.Print.{decimal}
use Rattle.printout.specs.Text.{ascii}
use Rattle.word_text.proofs.Words.{past}
use Rattle.notation.specs.declared.Spot.{Spot}
use Rattle.notation_text.specs.Message.{place_text}

pub place_stored : (s : Spot) → length (decimal s.line) ≤ 20 → length (decimal s.column) ≤ 20 → {before m1 m2 m3 after : List ℕ} {to1 to2 to3 end : ℕ}
    → Stored (ascii "line ") before 0 m1 to1 → Stored (decimal s.line ++ 44 ∷ []) m1 to1 m2 to2 → Stored (ascii " column ") m2 to2 m3 to3
    → Stored (decimal s.column ++ 58 ∷ []) m3 to3 after end → Stored (place_text s) before 0 after end × (end ≤ 55)
place_stored s few1 few2 a b c d =
    let seam = append_assoc (decimal s.line) (44 ∷ []) (ascii " column " ++ (decimal s.column ++ 58 ∷ [])) in (
      rw seam at (and_then a (and_then b (and_then c d))),
      omega (arith, a.ends, past (decimal s.line) 44 b, c.ends, past (decimal s.column) 58 d),
    )
