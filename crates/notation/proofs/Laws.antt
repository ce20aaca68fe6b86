-- What a loop over a text has left of it: its bytes, its first fault and the spot after it, from an index on.
use Rattle.std.proofs.Common.{ℕ, ◌+◌, ◌≤◌, ◌<◌, ◌≡◌, refl, ◌∷◌, true, false, List, [], ◌++◌, drop, get_or, length, length-append, ap, ◌∙◌, Some, None}
use Rattle.lists.proofs.Loops.{drop_end}
use Rattle.lists.proofs.Parts.{drop_more}
use Rattle.notation.specs.Notation.{after, begins_notation, bytes_from, character_step, end_fault, fault_from, is_free, made_of, missing_at, opens_notation, settled, spot_from, spot_past}
use Rattle.notation.specs.declared.Spot.{Spot}
use Rattle.notation.specs.declared.State.{State}

-- a byte that has ended leaves what a start leaves
pub bytes_settled : (s : State) (text : List ℕ) → bytes_from s text ≡ bytes_from (settled s) text
unfolding bytes_from
bytes_settled State.Between text = refl
bytes_settled State.Comment text = refl
bytes_settled (State.First high) text = refl
bytes_settled (State.Byte value) [] = refl
bytes_settled (State.Byte value) (c ∷ cs) = refl

pub fault_settled : (s : State) (at : ℕ) (text : List ℕ) → fault_from at s text ≡ fault_from at (settled s) text
unfolding fault_from
fault_settled State.Between at text = refl
fault_settled State.Comment at text = refl
fault_settled (State.First high) at text = refl
fault_settled (State.Byte value) at [] = refl
fault_settled (State.Byte value) at (c ∷ cs) = refl

module _ (s : State) (l : List ℕ) (i : ℕ) where
  pub bytes_end : length l ≤ i → bytes_from s (drop i l) ≡ []
  unfolding bytes_from
  bytes_end h = rw (drop_end l i h)

  pub fault_end : length l ≤ i → fault_from i s (drop i l) ≡ end_fault s i
  unfolding fault_from
  fault_end h = rw (drop_end l i h)

  module _ (h : i < length l) where
    pub bytes_more : bytes_from s (drop i l) ≡ made_of (after s (get_or l i 0)) ++ bytes_from (after s (get_or l i 0)) (drop (i + 1) l)
    unfolding bytes_from
    bytes_more = rw (drop_more l i 0 h)

    pub length_more : length (bytes_from s (drop i l)) ≡ length (made_of (after s (get_or l i 0))) + length (bytes_from (after s (get_or l i 0)) (drop (i + 1) l))
    length_more = ap length bytes_more ∙ length-append (made_of (after s (get_or l i 0))) (bytes_from (after s (get_or l i 0)) (drop (i + 1) l))

    pub bytes_next : bytes_from s (drop i l) ≡ made_of (after s (get_or l i 0)) ++ bytes_from (settled (after s (get_or l i 0))) (drop (i + 1) l)
    bytes_next = bytes_more ∙ ap (λ (bs : List ℕ). made_of (after s (get_or l i 0)) ++ bs) (bytes_settled (after s (get_or l i 0)) (drop (i + 1) l))

    pub length_next : length (bytes_from s (drop i l)) ≡ length (made_of (after s (get_or l i 0))) + length (bytes_from (settled (after s (get_or l i 0))) (drop (i + 1) l))
    length_next = ap length bytes_next ∙ length-append (made_of (after s (get_or l i 0))) (bytes_from (settled (after s (get_or l i 0))) (drop (i + 1) l))

    pub fault_here : character_step s (get_or l i 0) ≡ None → fault_from i s (drop i l) ≡ Some (missing_at s i)
    unfolding fault_from
    fault_here e = rw (drop_more l i 0 h, e)

    pub fault_more : (r : State) → character_step s (get_or l i 0) ≡ Some r → fault_from i s (drop i l) ≡ fault_from (i + 1) r (drop (i + 1) l)
    unfolding fault_from
    fault_more r e = rw (drop_more l i 0 h, e)

    pub fault_next : (r : State) → character_step s (get_or l i 0) ≡ Some r → fault_from i s (drop i l) ≡ fault_from (i + 1) (settled r) (drop (i + 1) l)
    fault_next r e = fault_more r e ∙ fault_settled r (i + 1) (drop (i + 1) l)

module _ (s : Spot) (previous : ℕ) (l : List ℕ) (i : ℕ) where
  pub spot_end : length l ≤ i → spot_from s previous (drop i l) ≡ s
  unfolding spot_from
  spot_end h = rw (drop_end l i h)

  pub spot_more : i < length l → spot_from s previous (drop i l) ≡ spot_from (spot_past s previous (get_or l i 0)) (get_or l i 0) (drop (i + 1) l)
  unfolding spot_from
  spot_more h = rw (drop_more l i 0 h)

-- whether what is left opens notation
module _ (l : List ℕ) (i : ℕ) where
  pub opens_end : length l ≤ i → opens_notation (drop i l) ≡ false
  unfolding opens_notation
  opens_end h = rw (drop_end l i h)

  module _ (h : i < length l) where
    pub opens_here : is_free (get_or l i 0) ≡ false → opens_notation (drop i l) ≡ begins_notation (get_or l i 0)
    unfolding opens_notation
    opens_here free = rw (drop_more l i 0 h, free)

    pub opens_more : is_free (get_or l i 0) ≡ true → opens_notation (drop i l) ≡ opens_notation (drop (i + 1) l)
    unfolding opens_notation
    opens_more free = rw (drop_more l i 0 h, free)
