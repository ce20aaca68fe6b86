-- What the proofs of these lines share: the words of each answer, the room for them, and that they are the line.
use Rattle.std.specs.Prelude.{Option}
use Prim.Native.Nat.{ℕ, ◌+◌, ◌≤◌}
use mathlib.Core.Path.{◌≡◌, ap}
use mathlib.Core.List.{List, [], ◌∷◌, ◌++◌}
use native.Mathlib.Omega.{arith}
use lib.ListN.{length}
use mir.Val.{Val}
use denote.Laws.{Is}
use denote.Enum.Declared.{row}
use Rattle.view.specs.declared.Place.{Place}
use Rattle.view.specs.declared.Position.{Position}
use Rattle.steps.specs.declared.Answer.{Answer}
use Rattle.steps.specs.contracts.Answer.{the_type}
use Rattle.printout.specs.Print.{answer_words, decimal, hex_in, wakes_words, words}
use Rattle.printout.specs.Text.{ascii}
use Rattle.number_text.specs.Stored.{Stored}
use Rattle.answer_text.specs.Printing.{most_values}
use Rattle.answer_text.proofs.Lengths.{values_short}
use Rattle.kind_text.specs.Put.{Put}

-- ---- the words of an answer, by the arm that it went to; a number as it was made wide for the call
module _ {a : Answer} where
  pub holds : {p : Place} {x : ℕ} → a ≡ Answer.Holds p → x ≡ p.0 → answer_words a ≡ ascii "holds" ∷ decimal x ∷ []
  unfolding answer_words
  holds told wide = rw (told, wide)

  pub waits : a ≡ Answer.Waits → answer_words a ≡ ascii "waits" ∷ []
  unfolding answer_words
  waits told = rw told

  pub region : {p : Place} {count x y : ℕ} {w : Option ℕ} → a ≡ Answer.Region p count w → x ≡ p.0 → y ≡ count
      → answer_words a ≡ ascii "region" ∷ decimal x ∷ decimal y ∷ wakes_words w
  unfolding answer_words
  region told wide wide2 = rw (told, wide, wide2)

  pub wrote : {p : Position} → a ≡ Answer.Wrote p → answer_words a ≡ ascii "wrote" ∷ decimal p.0 ∷ []
  unfolding answer_words
  wrote told = rw told

  pub recorded : {content : ℕ} → a ≡ Answer.Record content → answer_words a ≡ ascii "record" ∷ hex_in 16 content ∷ []
  unfolding answer_words
  recorded told = rw told

  pub none : a ≡ Answer.None → answer_words a ≡ ascii "none" ∷ []
  unfolding answer_words
  none told = rw told

  pub freed : {w : Option ℕ} → a ≡ Answer.Freed w → answer_words a ≡ ascii "freed" ∷ wakes_words w
  unfolding answer_words
  freed told = rw told

  pub gathered : a ≡ Answer.Gathered → answer_words a ≡ ascii "gathered" ∷ []
  unfolding answer_words
  gathered told = rw told

  pub ordered : {p : Place} {total x y : ℕ} → a ≡ Answer.Ordered p total → x ≡ p.0 → y ≡ total → answer_words a ≡ ascii "ordered" ∷ decimal x ∷ decimal y ∷ []
  unfolding answer_words
  ordered told wide wide2 = rw (told, wide, wide2)

  pub refused : {number : ℕ} → a ≡ Answer.Refused number → answer_words a ≡ answer_words (Answer.Refused number)
  refused told = ap answer_words told

-- ---- words that are the answer's have room, and stored they are its line; what a function's proof has of its answer is `Is`, in `good`
pub room : (a : Answer) (at : ℕ) {v : Val} {size : ℕ} {ws : List (List ℕ)} → Is (row the_type) a (v ∷ []) → at + most_values ≤ size → answer_words a ≡ ws
    → at + length (words ws) ≤ size
room a at {v} good pre same = rw (← same) (omega (arith, values_short a v good))

module _ {a : Answer} {v : Val} {before after : List ℕ} {at end : ℕ} (good : Is (row the_type) a (v ∷ [])) where
  pub put : {ws : List (List ℕ)} → answer_words a ≡ ws → Stored (words ws) before at after end → Put a before at after end
  put same stored =
      let text = rw (← same) at stored in
      record { text = text; short = omega (arith, text.ends, values_short a v good) }

  pub put_word : {w : List ℕ} → answer_words a ≡ w ∷ [] → Stored (w ++ 10 ∷ []) before at after end → Put a before at after end
  unfolding words
  put_word same stored = put same stored
