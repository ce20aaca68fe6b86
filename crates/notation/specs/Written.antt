-- The digits of a text, and bytes written as a text: what notation/Pairs: digits_are_bytes and notation/RoundTrip: written_parses speak of.
use Rattle.std.specs.Prelude.{ℕ, ◌/◌, ◌%◌, Bool, true, false, cond, not, List, [], ◌∷◌, ◌++◌, eqb, ltb, Option, Some, None}
use Rattle.printout.specs.Print.{hex_in}
use Rattle.notation.specs.Notation.{digit_of, is_line_end}

-- a digit, if there is one, before others
abbrev pub digits_then : Option ℕ → List ℕ → List ℕ
digits_then None ds = ds
digits_then (Some d) ds = d ∷ ds

-- the values of the digits outside comments
unfoldable pub digits_from : Bool → List ℕ → List ℕ
digits_from comment [] = []
digits_from true (c ∷ cs) = digits_from (not (is_line_end c)) cs
digits_from false (c ∷ cs) =
    cond (eqb c 35) (digits_from true cs) (digits_then (digit_of c) (digits_from false cs))

abbrev pub digits_of : List ℕ → List ℕ
digits_of text = digits_from false text

-- two digits a byte
unfoldable pub digit_pairs : List ℕ → List ℕ
digit_pairs [] = []
digit_pairs (b ∷ bs) = b / 16 ∷ b % 16 ∷ digit_pairs bs

abbrev pub is_byte : ℕ → Bool
is_byte b = ltb b 256

-- bytes in the notation, with the same gap after each
unfoldable pub written : List ℕ → List ℕ → List ℕ
written gap [] = []
written gap (b ∷ bs) = (hex_in 2 b ++ gap) ++ written gap bs

abbrev pub byte_order_mark : List ℕ
byte_order_mark = 239 ∷ 187 ∷ 191 ∷ []
