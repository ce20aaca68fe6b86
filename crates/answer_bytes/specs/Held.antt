-- The numbers of an answer as the code holds them. Tied to AnswerBytes by the contracts of answer_bytes::answer_in and answer_bytes::put_answer.
use Rattle.std.specs.Prelude.{ℕ, List, [], ◌∷◌}
use Rattle.answer_bytes.specs.declared.Numbers.{Numbers}

abbrev pub numbers_in : Numbers → List ℕ
numbers_in n = n.word ∷ n.number ∷ n.woken ∷ n.lane ∷ n.first ∷ n.second ∷ []
