-- Bytes written in the notation are read back, whatever free characters stand between them; and a byte order mark changes nothing.
use Prim.Native.Nat.{ℕ, ◌+◌, ◌*◌, ◌/◌, ◌%◌, ◌<◌, ◌≤◌}
use mathlib.Core.Path.{◌≡◌, refl, ap}
use mathlib.Core.Bool.{true}
use mathlib.Core.List.{List, [], ◌∷◌, ◌++◌}
use native.Mathlib.Omega.{arith}
use lib.Dec.{ltb}
use lib.ListN.{length}
use lib.Seq.{sets}
use borrow.Author.Tests.{le-ltb, ltb-true, ne_eqb}
use Rattle.lists.proofs.Tests.{and_left, and_right}
use Rattle.lists.specs.Lists.{all_pass}
use Rattle.printout.specs.Print.{hex_digit}
use Rattle.notation.specs.Notation.{bytes_from, character_step, fault_from, is_free, left_of, mark_length, most_notation, parsed_of}
use Rattle.notation.specs.Written.{byte_order_mark, is_byte, written}
use Rattle.notation.specs.declared.State.{State}
use Rattle.std.proofs.Common.{Some, None, Ok}
use Rattle.notation.proofs.Characters.{Digit, free_neither, hex_digit_lem, none_some, same_both, two_digits}
use Rattle.notation.proofs.Pairs.{bytes_whole, fault_whole}

-- no fault from any index on
abbrev Faultless : List ℕ → Type 0
Faultless text = (at : ℕ) → fault_from at State.Between text ≡ None

-- ---- free characters are passed over
bytes_gap : (gap rest : List ℕ) → all_pass is_free gap ≡ true → bytes_from State.Between (gap ++ rest) ≡ bytes_from State.Between rest
unfolding bytes_from
bytes_gap [] rest e = refl
bytes_gap (c ∷ cs) rest e =
    let free = and_left (is_free c) (all_pass is_free cs) e in
    rw ((free_neither c free).0, free) (bytes_gap cs rest (and_right (is_free c) (all_pass is_free cs) e))

fault_gap : (gap rest : List ℕ) → all_pass is_free gap ≡ true → Faultless rest → Faultless (gap ++ rest)
unfolding fault_from
fault_gap [] rest e s at = s at
fault_gap (c ∷ cs) rest e s at =
    let free = and_left (is_free c) (all_pass is_free cs) e in
    rw ((free_neither c free).0, free) (fault_gap cs rest (and_right (is_free c) (all_pass is_free cs) e) s (at + 1))

-- ---- two digits are a byte
module _ (c e a d : ℕ) (first : Digit c a) (second : Digit e d) (high : a < 16) (low : d < 16) where
  first_step : character_step State.Between c ≡ Some (State.First a)
  first_step = rw (first.hash, first.free, first.value)

  second_step : character_step (State.First a) e ≡ Some (State.Byte (a * 16 + d))
  second_step = rw second.value

  bytes_pair : (rest : List ℕ) → bytes_from State.Between (c ∷ e ∷ rest) ≡ (a * 16 + d) ∷ bytes_from State.Between rest
  unfolding bytes_from
  bytes_pair rest = rw (first_step, second_step, bytes_whole (a * 16 + d) rest)

  fault_pair : (rest : List ℕ) → Faultless rest → Faultless (c ∷ e ∷ rest)
  unfolding fault_from
  fault_pair rest s at = rw (first_step, second_step, fault_whole (a * 16 + d) (at + 1 + 1) rest) (s (at + 1 + 1))

-- a digit is no mark
unmarked : (c d : ℕ) → Digit c d → d < 16 → (rest : List ℕ) → mark_length (c ∷ rest) ≡ 0
unmarked c d digit small rest =
    let other : c ≡ 239 → ⊥ = λ q. none_some d (rw q at digit.value) in
    rw (ne_eqb c 239 other) (same_both (ltb (length (c ∷ rest)) 3) 0)

-- ---- bytes written
module _ (gap : List ℕ) (free : all_pass is_free gap ≡ true) where
  written_more : (b : ℕ) (bs : List ℕ) → written gap (b ∷ bs) ≡ hex_digit (b / 16) ∷ hex_digit (b % 16) ∷ (gap ++ written gap bs)
  unfolding written
  written_more b bs = rw (two_digits b)

  bytes_written : (bytes : List ℕ) → all_pass is_byte bytes ≡ true → bytes_from State.Between (written gap bytes) ≡ bytes
  unfolding bytes_from written
  bytes_written [] e = refl
  bytes_written (b ∷ bs) e =
      let small = ltb-true b 256 (and_left (is_byte b) (all_pass is_byte bs) e) in
      let high : b / 16 < 16 = omega arith in
      let low : b % 16 < 16 = omega arith in
      let whole : b / 16 * 16 + b % 16 ≡ b = omega arith in
      rw (written_more b bs, bytes_pair _ _ _ _ (hex_digit_lem (b / 16) high) (hex_digit_lem (b % 16) low) high low (gap ++ written gap bs), whole, bytes_gap gap (written gap bs) free)
      (ap (λ (l : List ℕ). b ∷ l) (bytes_written bs (and_right (is_byte b) (all_pass is_byte bs) e)))

  fault_written : (bytes : List ℕ) → all_pass is_byte bytes ≡ true → Faultless (written gap bytes)
  unfolding fault_from written
  fault_written [] e at = refl
  fault_written (b ∷ bs) e at =
      let small = ltb-true b 256 (and_left (is_byte b) (all_pass is_byte bs) e) in
      let high : b / 16 < 16 = omega arith in
      let low : b % 16 < 16 = omega arith in
      let rest = fault_gap gap (written gap bs) free (fault_written bs (and_right (is_byte b) (all_pass is_byte bs) e)) in
      rw (written_more b bs) (fault_pair _ _ _ _ (hex_digit_lem (b / 16) high) (hex_digit_lem (b % 16) low) high low (gap ++ written gap bs) rest at)

  unmarked_written : (bytes : List ℕ) → all_pass is_byte bytes ≡ true → mark_length (written gap bytes) ≡ 0
  unfolding written
  unmarked_written [] e = refl
  unmarked_written (b ∷ bs) e =
      let small = ltb-true b 256 (and_left (is_byte b) (all_pass is_byte bs) e) in
      let high : b / 16 < 16 = omega arith in
      rw (written_more b bs) (unmarked _ _ (hex_digit_lem (b / 16) high) high (hex_digit (b % 16) ∷ (gap ++ written gap bs)))

  -- bytes that are written with free characters after each are read back
  pub written_parses : (bytes : List ℕ) → all_pass is_byte bytes ≡ true → length (written gap bytes) ≤ most_notation → (out : List ℕ) → length bytes ≤ length out
      → (parsed_of (written gap bytes) (length out) ≡ Ok (length bytes)) × (left_of (written gap bytes) out ≡ sets out 0 bytes)
  written_parses bytes e short out room =
      rw (le-ltb most_notation (length (written gap bytes)) short, unmarked_written bytes e, fault_written bytes e 0, bytes_written bytes e, le-ltb (length out) (length bytes) room)
      (refl, refl)

-- a byte order mark before a text that has none changes nothing
pub marked_parses : (text : List ℕ) → mark_length text ≡ 0 → length text + 3 ≤ most_notation → (out : List ℕ)
    → (parsed_of (byte_order_mark ++ text) (length out) ≡ parsed_of text (length out)) × (left_of (byte_order_mark ++ text) out ≡ left_of text out)
marked_parses text none short out =
    let all : length (byte_order_mark ++ text) ≤ most_notation = omega arith in
    let few : length text ≤ most_notation = omega arith in
    let three : 3 ≤ length (byte_order_mark ++ text) = omega arith in
    rw (le-ltb most_notation (length (byte_order_mark ++ text)) all, le-ltb most_notation (length text) few, le-ltb (length (byte_order_mark ++ text)) 3 three, none) (refl, refl)
