-- Columns: blanks stored over the line end after a text, and a line's words without it.
use Prim.Native.Nat.{ℕ, suc, ◌+◌, ◌-◌, ◌<◌}
use mathlib.Core.Path.{◌≡◌, refl, sym, ap, ◌∙◌}
use mathlib.Core.List.{List, [], ◌∷◌, ◌++◌, append_assoc}
use native.Mathlib.Omega.{arith}
use lib.ListN.{length, length-append, replicate}
use lib.Seq.{set-set, sets}
use Rattle.lists.proofs.Sets.{sets_append}
use Rattle.number_text.specs.Stored.{Stored}
use Rattle.steps.specs.declared.Answer.{Answer}
use Rattle.printout.specs.Print.{answer_words, words}
use Rattle.trace_text.specs.TraceLine.{column, joined, told_words}

-- a line's words are the joined words and a line end
pub words_joined : (w : List ℕ) (ws : List (List ℕ)) → words (w ∷ ws) ≡ joined (w ∷ ws) ++ 10 ∷ []
unfolding words joined
words_joined w [] = refl
words_joined w (v ∷ ws) = ap (λ (t : List ℕ). (w ++ 32 ∷ []) ++ t) (words_joined v ws) ∙ sym (append_assoc (w ++ 32 ∷ []) (joined (v ∷ ws)) (10 ∷ []))

-- a text with a byte after it ends past its start
pub ends_past : {before after : List ℕ} {at end : ℕ} (text : List ℕ) (c : ℕ) → Stored (text ++ c ∷ []) before at after end → at < end
ends_past text c s = omega (arith, s.ends, length-append text (c ∷ []))

-- a text stored over the last byte of another
stored_over : (text more before : List ℕ) (at c x : ℕ) → sets (sets before at (text ++ c ∷ [])) (at + length text) (x ∷ more) ≡ sets before at (text ++ x ∷ more)
stored_over text more before at c x =
    rw (← sets_append text (c ∷ []) before at, ← sets_append text (x ∷ more) before at, set-set (sets before at text) (at + length text) c x)

-- a text with its line end, and then a column's blanks over that
pub columned : {before middle after : List ℕ} {at end answer : ℕ} (width : ℕ) (text : List ℕ) → Stored (text ++ 10 ∷ []) before at middle end
    → Stored (replicate (width - (end - 1 - at) + 2) 32) middle (end - 1) after answer → Stored (column width text) before at after answer
columned {before} {middle} {after} {at} {end} {answer} width text a b =
    let long : end ≡ at + (length text + 1) = a.ends ∙ ap (◌+◌ at) (length-append text (10 ∷ [])) in
    let last : end - 1 ≡ at + length text = omega (arith, long) in
    let wide : end - 1 - at ≡ length text = omega (arith, long) in
    let some : width - length text + 2 ≡ suc (width - length text + 1) = omega arith in
    let over : Stored (replicate (width - length text + 2) 32) middle (at + length text) after answer = rw (wide, last) at b in
    record {
      bytes = over.bytes ∙ rw (a.bytes, some) (stored_over text (replicate (width - length text + 1) 32) before at 10 32);
      ends = over.ends ∙ rw (length-append text (replicate (width - length text + 2) 32)) (omega arith);
    }

-- the same of a line's words
module _ {before middle : List ℕ} {at end : ℕ} (w : List ℕ) (ws : List (List ℕ)) (a : Stored (words (w ∷ ws)) before at middle end) where
  pub words_past : at < end
  words_past = ends_past (joined (w ∷ ws)) 10 (rw (words_joined w ws) at a)

  pub columned_words : {after : List ℕ} {answer : ℕ} (width : ℕ) → Stored (replicate (width - (end - 1 - at) + 2) 32) middle (end - 1) after answer
      → Stored (column width (joined (w ∷ ws))) before at after answer
  columned_words width b = columned width (joined (w ∷ ws)) (rw (words_joined w ws) at a) b

-- an answer has a word at least
pub told_joined : (a : Answer) → words (told_words a) ≡ joined (told_words a) ++ 10 ∷ []
unfolding answer_words
told_joined (Answer.Open lanes capacity) = words_joined _ _
told_joined (Answer.Holds pointer) = words_joined _ _
told_joined Answer.Waits = words_joined _ _
told_joined (Answer.Region start count wakes) = words_joined _ _
told_joined (Answer.Wrote position) = words_joined _ _
told_joined (Answer.Record content) = words_joined _ _
told_joined Answer.None = words_joined _ _
told_joined (Answer.Freed wakes) = words_joined _ _
told_joined Answer.Gathered = words_joined _ _
told_joined (Answer.Ordered first total) = words_joined _ _
told_joined Answer.View = words_joined _ _
told_joined (Answer.Seek pointer) = words_joined _ _
told_joined (Answer.Refused number) = words_joined _ _
