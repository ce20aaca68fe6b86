-- The length of a record's words, texts stored one after the other, grouped as a line's words are, and the words of an event by what it is.
use Prim.Native.Nat.{ℕ}
use mathlib.Core.Path.{◌≡◌, refl, subst}
use mathlib.Core.List.{List, [], ◌∷◌, ◌++◌, append_assoc}
use native.Mathlib.Omega.{arith}
use lib.ListN.{length}
use Rattle.number_text.proofs.Hex.{hex_length}
use Rattle.number_text.proofs.Stores.{and_then}
use Rattle.number_text.specs.Stored.{Stored}
use Rattle.printout.specs.Text.{ascii}
use Rattle.printout.specs.Print.{decimal, hex_in, words}
use Rattle.view.specs.declared.Block.{Block}
use Rattle.event.specs.declared.Event.{Event}
use Rattle.event.proofs.Blocks.{eight_are}
use Rattle.event_text.specs.Show.{StoredTwo, block_words, event_words}
use Rattle.word_text.proofs.Words.{one_length}

pub record_length : (n : ℕ) → length (words (ascii "record" ∷ hex_in 16 n ∷ [])) ≡ 24
record_length n = omega (arith, one_length (ascii "record") (hex_in 16 n), hex_length 16 n)

-- two texts, then a third
pub two_then : {xs ys zs before middle after : List ℕ} {at seam end : ℕ} → StoredTwo xs ys before at middle seam → Stored zs middle seam after end
    → Stored (xs ++ (ys ++ zs)) before at after end
two_then {xs} {ys} {zs} a b = rw (append_assoc xs ys zs) at (and_then a.both b)

-- the words of an event are those of what it is, while its words are still unopened
pub as_event : {e known : Event} {before after : List ℕ} {at answer : ℕ} → e ≡ known → Stored (words (event_words known)) before at after answer
    → Stored (words (event_words e)) before at after answer
as_event same stored = rw same stored

-- a view has eight blocks
pub view_words : (displacement extent used : ℕ) (blocks : List Block) → length blocks ≡ 8
    → words (event_words (Event.View displacement extent used blocks))
    ≡ words (ascii "view    displacement" ∷ decimal displacement ∷ ascii "extent" ∷ decimal extent ∷ ascii "blocks" ∷ decimal used ∷ block_words blocks)
unfolding event_words words
view_words displacement extent used blocks eight =
    subst (λ (bs : List Block). words (event_words (Event.View displacement extent used bs))
    ≡ words (ascii "view    displacement" ∷ decimal displacement ∷ ascii "extent" ∷ decimal extent ∷ ascii "blocks" ∷ decimal used ∷ block_words blocks))
    (eight_are blocks eight) refl
