-- The printed line of an answer in bytes: `answer_line` of the answer that they are.
use Rattle.std.specs.Prelude.{ℕ, cond, List}
use Rattle.answer_bytes.specs.AnswerBytes.{answer_in, is_answer}
use Rattle.answer_text.specs.Printing.{printed_to, printing_of}
use Rattle.embed.specs.Embedded.{length_printed}

-- its length, 0 where the bytes are no answer
abbrev pub answer_text_length : List ℕ → ℕ → List ℕ → ℕ
answer_text_length answer number text = cond (is_answer answer) (length_printed (printing_of text number (answer_in answer))) 0

-- the text buffer, as it was where the bytes are no answer
abbrev pub answer_text : List ℕ → ℕ → List ℕ → List ℕ
answer_text answer number text = cond (is_answer answer) (printed_to text number (answer_in answer)) text
