-- The line of an answer past the event's number, stored in a lent buffer. Tied to `answer_line` by answer_text/Answers: before_answer.
use Rattle.std.specs.Prelude.{ℕ, ◌+◌, ◌≤◌, List}
use Rattle.steps.specs.declared.Answer.{Answer}
use Rattle.printout.specs.Print.{answer_words, words}
use Rattle.number_text.specs.Stored.{Stored}
use Rattle.answer_text.specs.Printing.{most_values}

-- the words stand from an index on, and they are no longer than the longest
pub record Put (answer : Answer) (before : List ℕ) (at : ℕ) (after : List ℕ) (end : ℕ) : Type 0 where
  pub text : Stored (words (answer_words answer)) before at after end
  pub short : end ≤ at + most_values
