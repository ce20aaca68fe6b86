-- The numbers of an answer where they stand in bytes.
use Prim.Native.Nat.{ℕ, ◌≤◌}
use mathlib.Core.Path.{◌≡◌}
use mathlib.Core.List.{List, [], ◌∷◌}
use native.Mathlib.Omega.{arith}
use lib.ListN.{drop, get_or, length, take}
use lib.Seq.{drop-drop}
use Rattle.event.specs.BigEndian.{number_of}
use Rattle.event.specs.Event.{fields_in}
use Rattle.decode_fields.proofs.Numbers.{number_of_one}
use Rattle.answer_bytes.specs.AnswerBytes.{answer_lengths}

-- the numbers that stand in bytes
pub answer_fields : (bytes : List ℕ) (first second : ℕ) → 16 ≤ length bytes → first ≡ number_of (take 8 (drop 4 bytes)) → second ≡ number_of (take 4 (drop 12 bytes))
    → get_or bytes 0 0 ∷ get_or bytes 1 0 ∷ get_or bytes 2 0 ∷ get_or bytes 3 0 ∷ first ∷ second ∷ [] ≡ fields_in answer_lengths bytes
unfolding fields_in
answer_fields bytes first second h e f =
    rw (e, f, drop-drop 1 1 bytes, drop-drop 1 2 bytes, drop-drop 1 3 bytes, drop-drop 8 4 bytes, number_of_one bytes 0 (omega arith), number_of_one bytes 1 (omega arith), number_of_one bytes 2 (omega arith), number_of_one bytes 3 (omega arith))
