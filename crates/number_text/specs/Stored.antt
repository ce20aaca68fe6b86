-- What a function that stores a text in a lent buffer leaves and answers. Tied to `answer_line` by the contract of answer_text::print_answer.
use Rattle.std.specs.Prelude.{ℕ, ◌+◌, ◌≡◌, List, length}
use Rattle.std.proofs.lemmas.List.Edits.{sets}

-- the text stands from an index on, every other byte is as it was, and the answer is the index after the text
pub record Stored (text before : List ℕ) (at : ℕ) (after : List ℕ) (answer : ℕ) : Type 0 where
  pub bytes : after ≡ sets before at text
  pub ends : answer ≡ at + length text
