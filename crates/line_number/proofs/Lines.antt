-- A line's number stored, and the rest of the line stored after it, over the bytes that may have changed there.
use Prim.Native.Nat.{ℕ, suc, ◌+◌, ◌-◌, ◌≤◌, ◌<◌}
use mathlib.Core.Path.{◌≡◌, refl, sym, ◌∙◌}
use mathlib.Core.Logic.{◌≢◌}
use mathlib.Core.List.{List, [], ◌∷◌, ◌++◌, append_assoc, append-nil}
use native.Mathlib.Omega.{arith}
use lib.ListN.{length, length-append, length-replicate, replicate, set}
use lib.Seq.{set_comm, set-set, sets}
use Rattle.lists.proofs.Sets.{sets_append}
use Rattle.event.specs.BigEndian.{big_endian}
use Rattle.event.specs.Event.{bytes_of}
use Rattle.event.proofs.Numbers.{big_endian_of_number}
use Rattle.encode_fields.specs.Put.{put_fields}
use Rattle.printout.specs.Print.{decimal}
use Rattle.number_text.specs.Stored.{Stored}
use Rattle.line_number.specs.Numbered.{InBytes, Numbered, word_bytes}
use Rattle.line_number.specs.declared.LineNumber.{LineNumber}
use Rattle.line_number.proofs.Digits.{are_bytes}
use Rattle.line_number.proofs.Bytes.{eight}

-- ---- stores over stores: one that is before others, and as many or more from the same index on
set_before : (vs l : List ℕ) (i j b : ℕ) → i < j → set (sets l j vs) i b ≡ sets (set l i b) j vs
set_before [] l i j b h = refl
set_before (v ∷ vs) l i j b h =
    let apart : j ≢ i = λ e. omega arith in
    set_before vs (set l j v) i (suc j) b (omega arith) ∙ rw (set_comm l j i v b apart)

sets_over : (us vs l : List ℕ) (i : ℕ) → length us ≤ length vs → sets (sets l i us) i vs ≡ sets l i vs
sets_over [] vs l i h = refl
sets_over (u ∷ us) [] l i h = absurd (omega arith)
sets_over (u ∷ us) (v ∷ vs) l i h =
    rw (set_before us (set l i u) i (suc i) v (omega arith), set-set l i u v) (sets_over us vs (set l i v) (suc i) (omega arith))

-- ---- the number stored: with no byte after the blank, or as the eight bytes of the word
pub numbered_plain : {n at answer : ℕ} {before after : List ℕ} → Stored (decimal n ++ 32 ∷ []) before at after answer → Numbered n before at after answer
numbered_plain s = record { past = []; few = omega arith; bytes = s.bytes; ends = s.ends ∙ simp length-append (omega arith) }

pub numbered_word : {n at : ℕ} {own : LineNumber} {before after : List ℕ} → InBytes n own → after ≡ put_fields (8 ∷ []) (own.word ∷ []) before at
    → Numbered n before at after (at + own.width)
unfolding put_fields bytes_of
numbered_word {n} {at} {own} {before} {after} b e =
    let w = own.width in
    let same : big_endian 8 own.word ≡ word_bytes n w =
    rw b.word (rw (eight n w b.width b.most) at (big_endian_of_number (word_bytes n w) (are_bytes n w))) in
    record {
      past = replicate (8 - w) 0;
      few = simp length-replicate (omega (arith, b.least));
      bytes = e ∙ rw (append-nil (big_endian 8 own.word), same);
      ends = omega (arith, b.width);
    }

-- ---- the rest of the line after it
pub numbered_then : {n at seam end : ℕ} {rest before middle after : List ℕ} → Numbered n before at middle seam → 5 ≤ length rest
    → Stored rest middle seam after end
    → Stored ((decimal n ++ 32 ∷ []) ++ rest) before at after end
numbered_then {n} {at} {seam} {end} {rest} {before} {middle} {after} s long b =
    let text = decimal n ++ 32 ∷ [] in
    let over : length s.past ≤ length rest = omega (arith, s.few) in
    let width : length text ≡ length (decimal n) + 1 = length-append (decimal n) (32 ∷ []) in
    let seam-is : seam ≡ at + length text = omega (arith, s.ends) in
    let first : middle ≡ sets (sets before at text) (at + length text) s.past =
    s.bytes ∙ rw (← append_assoc (decimal n) (32 ∷ []) s.past) (sym (sets_append text s.past before at)) in
    record {
      bytes = b.bytes ∙ rw (first, seam-is) (sets_over s.past rest (sets before at text) (at + length text) over ∙ sets_append text rest before at);
      ends = b.ends ∙ rw (length-append text rest) (omega arith);
    }
