-- Texts stored one after the other are the texts stored together.
use Prim.Native.Nat.{ℕ, suc, ◌+◌, ◌-◌, ◌≤◌}
use mathlib.Core.Path.{◌≡◌, refl, sym, ap, ◌∙◌}
use mathlib.Core.List.{List, [], ◌∷◌, ◌++◌, append_assoc}
use native.Mathlib.Omega.{arith}
use lib.ListN.{drop, length, length-append, set, take}
use lib.Seq.{drop-drop, length-sets, sets-eq}
use borrow.Rule.Slice.PartMut.{put_mid}
use Rattle.lists.proofs.Sets.{sets_append}
use Rattle.number_text.specs.Stored.{Stored}

pub stored_length : {text before after : List ℕ} {at answer : ℕ} → Stored text before at after answer → length after ≡ length before
stored_length {text} {before} {after} {at} s = ap length s.bytes ∙ length-sets before at text

-- a text stored from where the one before it ends
pub and_then : {xs ys before middle after : List ℕ} {at seam end : ℕ} → Stored xs before at middle seam → Stored ys middle seam after end
    → Stored (xs ++ ys) before at after end
and_then {xs} {ys} {before} {middle} {after} {at} {seam} {end} a b =
    record {
      bytes = b.bytes ∙ rw (a.bytes, a.ends) (sets_append xs ys before at);
      ends = b.ends ∙ rw (length-append xs ys) (omega (arith, a.ends));
    }

-- one byte
pub one_byte : (before : List ℕ) (at byte : ℕ) → Stored (byte ∷ []) before at (set before at byte) (at + 1)
one_byte before at byte = record { bytes = refl; ends = refl }

-- one byte more, at the index after the text
pub then_byte : {text before after : List ℕ} {at : ℕ} (k byte : ℕ) → Stored text before at after (at + k)
    → Stored (text ++ (byte ∷ [])) before at (set after (at + k) byte) (at + suc k)
then_byte {text} {before} {after} {at} k byte stored =
    let both = and_then stored (one_byte after (at + k) byte) in
    record { bytes = both.bytes; ends = omega (arith, both.ends) }

-- two bytes, one after the other
pub two_bytes : (before : List ℕ) (at : ℕ) {low high a b : ℕ} → low ≡ a → high ≡ b → Stored (a ∷ b ∷ []) before at (set (set before at low) (at + 1) high) (at + 2)
two_bytes before at {low} {high} {a} {b} first second = rw (first, second) (then_byte 1 b (one_byte before at a))

-- a text that is written over a part of the buffer
pub part_stored : (before text part : List ℕ) (at end : ℕ) → part ≡ text → end ≤ length before → end ≡ at + length text
    → Stored text before at (put_mid at (end - at) before part) end
part_stored before text part at end same room ends =
    let fits : at + length text ≤ length before = omega arith in
    let long : end - at ≡ length text = omega arith in
    record { bytes = rw (same, long, drop-drop) (sym (sets-eq text before at fits ∙ append_assoc (take at before) text (drop (at + length text) before))); ends = ends }
