-- The line of an answer: its number stored, then the answer's words.
use Prim.Native.Nat.{ℕ, ◌≤◌}
use mathlib.Core.Path.{◌≡◌, refl}
use mathlib.Core.List.{List, [], ◌∷◌, ◌++◌}
use native.Mathlib.Omega.{arith}
use lib.ListN.{length, length-append}
use Rattle.steps.specs.declared.Answer.{Answer}
use Rattle.printout.specs.Print.{answer_line, answer_words, decimal, words}
use Rattle.printout.specs.Text.{ascii}
use Rattle.number_text.specs.Stored.{Stored}
use Rattle.line_number.specs.Numbered.{Numbered}
use Rattle.line_number.proofs.Lines.{numbered_then}

-- a line's words, of which the first has at least four bytes
record Worded (ws : List (List ℕ)) : Type 0 where
  first : List ℕ
  more : List (List ℕ)
  are : ws ≡ first ∷ more
  four : 4 ≤ length first

begins : (w : List ℕ) (ws : List (List ℕ)) → 4 ≤ length w → Worded (w ∷ ws)
begins w ws h = record { first = w; more = ws; are = refl; four = h }

worded : (a : Answer) → Worded (answer_words a)
unfolding answer_words
worded (Answer.Open lanes capacity) = begins (ascii "open") _ (omega arith)
worded (Answer.Holds pointer) = begins (ascii "holds") _ (omega arith)
worded Answer.Waits = begins (ascii "waits") _ (omega arith)
worded (Answer.Region start count x) = begins (ascii "region") _ (omega arith)
worded (Answer.Wrote position) = begins (ascii "wrote") _ (omega arith)
worded (Answer.Record content) = begins (ascii "record") _ (omega arith)
worded Answer.None = begins (ascii "none") _ (omega arith)
worded (Answer.Freed x) = begins (ascii "freed") _ (omega arith)
worded Answer.Gathered = begins (ascii "gathered") _ (omega arith)
worded (Answer.Ordered before total) = begins (ascii "ordered") _ (omega arith)
worded Answer.View = begins (ascii "view") _ (omega arith)
worded (Answer.Seek pointer) = begins (ascii "seek") _ (omega arith)
worded (Answer.Refused number) = begins (ascii "refused") _ (omega arith)

-- a word before those of an answer
pub before_answer : (w : List ℕ) (a : Answer) → words (w ∷ answer_words a) ≡ (w ++ 32 ∷ []) ++ words (answer_words a)
unfolding words
before_answer w a = rw (worded a).are

-- how many bytes a line has at least
one_byte_more : (w : List ℕ) (ws : List (List ℕ)) → 4 ≤ length w → 5 ≤ length (words (w ∷ ws))
unfolding words
one_byte_more w [] h = simp length-append (omega arith)
one_byte_more w (v ∷ vs) h = simp length-append (omega arith)

pub five_bytes : (a : Answer) → 5 ≤ length (words (answer_words a))
five_bytes a =
    let x = worded a in
    rw x.are (one_byte_more x.first x.more x.four)

-- the number, the blank and the words are the line
pub answer_line_lem : {n at seam end : ℕ} {before middle after : List ℕ} (a : Answer) → Numbered n before at middle seam
    → Stored (words (answer_words a)) middle seam after end
    → Stored (answer_line n a) before at after end
answer_line_lem {n} a s b = rw (before_answer (decimal n) a) (numbered_then s (five_bytes a) b)
