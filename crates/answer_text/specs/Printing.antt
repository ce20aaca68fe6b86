-- An answer's line in a lent buffer: `answer_line`, where the longest line has room. That no line is longer: answer_text/Lengths: line_short.
use Rattle.std.specs.Prelude.{ℕ, Result, Ok, Err, cond, List, ltb, length}
use Rattle.std.proofs.lemmas.List.Edits.{sets}
use Rattle.steps.specs.declared.Answer.{Answer}
use Rattle.printout.specs.Print.{answer_line}
use Rattle.answer_text.specs.declared.TooShort.{TooShort}

-- the longest line: a number of 20 digits, a blank, `region` with 10 and 5 digits, ` wakes none` and the line end
abbrev pub most_line : ℕ
most_line = 56

-- the longest line past its number and the blank; that no answer's is longer: answer_text/Lengths: values_short
abbrev pub most_values : ℕ
most_values = 35

-- what is answered of a buffer that may be too short
abbrev pub too_short : Result ℕ TooShort
too_short = Err (record {})

-- a buffer of the longest line takes every line
abbrev pub printing_of : List ℕ → ℕ → Answer → Result ℕ TooShort
printing_of out number answer = cond (ltb (length out) most_line) too_short (Ok (length (answer_line number answer)))

-- the line at the buffer's start and every other byte as it was; a shorter buffer is left as it was
abbrev pub printed_to : List ℕ → ℕ → Answer → List ℕ
printed_to out number answer = cond (ltb (length out) most_line) out (sets out 0 (answer_line number answer))
