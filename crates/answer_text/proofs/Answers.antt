-- The line of an answer: its number, then the answer's words.
use Prim.Native.Nat.{ℕ, ◌+◌}
use mathlib.Core.Path.{◌≡◌, refl}
use mathlib.Core.List.{List, [], ◌∷◌, ◌++◌}
use lib.ListN.{length, length-append}
use Rattle.steps.specs.declared.Answer.{Answer}
use Rattle.printout.specs.Print.{answer_words, words}

-- a word before those of an answer, of which there is always one
pub before_answer : (w : List ℕ) (a : Answer) → words (w ∷ answer_words a) ≡ (w ++ 32 ∷ []) ++ words (answer_words a)
unfolding answer_words words
before_answer w (Answer.Open lanes capacity) = refl
before_answer w (Answer.Holds pointer) = refl
before_answer w Answer.Waits = refl
before_answer w (Answer.Region start count x) = refl
before_answer w (Answer.Wrote position) = refl
before_answer w (Answer.Record content) = refl
before_answer w Answer.None = refl
before_answer w (Answer.Freed x) = refl
before_answer w Answer.Gathered = refl
before_answer w (Answer.Ordered before total) = refl
before_answer w Answer.View = refl
before_answer w (Answer.Seek pointer) = refl
before_answer w (Answer.Refused number) = refl

pub answer_length_lem : (w : List ℕ) (a : Answer) → length (words (w ∷ answer_words a)) ≡ length w + 1 + length (words (answer_words a))
answer_length_lem w a = rw (before_answer w a) (simp length-append)
