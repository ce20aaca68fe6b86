-- An answer as bytes, in a fixed layout, and back; and what document 01 reads off it, read off the bytes. The laws: answer_bytes/RoundTrip.
use Rattle.std.specs.Prelude.{Option, Some, None, ℕ, zero, suc, ◌%◌, Bool, not, ◌&&◌, List, [], ◌∷◌, ◌++◌, eqb, leb, get_or, length, take}
use Rattle.lists.specs.Lists.{same_numbers}
use Rattle.view.specs.View.{place, position}
use Rattle.waitlist.specs.NextLane.{wakes_values}
use Rattle.event.specs.Event.{bytes_of, fields_in}
use Rattle.steps.specs.Answer.{Said, said_by}
use Rattle.steps.specs.declared.Answer.{Answer}

-- word 1, number 1, whether a lane is woken 1, that lane 1, first value 8, second value 4
abbrev pub answer_lengths : List ℕ
answer_lengths = 1 ∷ 1 ∷ 1 ∷ 1 ∷ 8 ∷ 4 ∷ []

abbrev pub answer_length : ℕ
answer_length = 16

-- how many lanes are woken, 0 or 1, and which
abbrev pub wakes_numbers : Option ℕ → List ℕ
wakes_numbers w = length (wakes_values w) ∷ get_or (wakes_values w) 0 0 ∷ []

-- an answer's numbers: its word's, document 01's own, the lane that is woken, and its values; what it does not have is 0
abbrev pub numbers_with : ℕ → Answer → Option ℕ → ℕ → ℕ → List ℕ
numbers_with word answer wakes first second = word ∷ (said_by answer).number ∷ wakes_numbers wakes ++ first ∷ second ∷ []

-- the words are numbered in the order in which document 01 has them, from 1; a refusal is 0
abbrev pub answer_numbers : Answer → List ℕ
answer_numbers (Answer.Refused number) = numbers_with 0 (Answer.Refused number) None 0 0
answer_numbers (Answer.Open lanes capacity) = numbers_with 1 (Answer.Open lanes capacity) None lanes capacity
answer_numbers (Answer.Holds pointer) = numbers_with 2 (Answer.Holds pointer) None pointer.0 0
answer_numbers Answer.Waits = numbers_with 3 Answer.Waits None 0 0
answer_numbers (Answer.Region start count wakes) = numbers_with 4 (Answer.Region start count wakes) wakes start.0 count
answer_numbers (Answer.Wrote position) = numbers_with 5 (Answer.Wrote position) None position.0 0
answer_numbers (Answer.Record content) = numbers_with 6 (Answer.Record content) None content 0
answer_numbers Answer.None = numbers_with 7 Answer.None None 0 0
answer_numbers (Answer.Freed wakes) = numbers_with 8 (Answer.Freed wakes) wakes 0 0
answer_numbers Answer.Gathered = numbers_with 9 Answer.Gathered None 0 0
answer_numbers (Answer.Ordered before total) = numbers_with 10 (Answer.Ordered before total) None before.0 total
answer_numbers Answer.View = numbers_with 11 Answer.View None 0 0
answer_numbers (Answer.Seek pointer) = numbers_with 12 (Answer.Seek pointer) None pointer.0 0

abbrev pub answer_bytes : Answer → List ℕ
answer_bytes a = bytes_of answer_lengths (answer_numbers a)

-- ---- read back
abbrev pub wakes_of : ℕ → ℕ → Option ℕ
wakes_of zero lane = None
wakes_of (suc k) lane = Some lane

-- the answers with these numbers, by their words' numbers; a value is cut to the type that `Answer` gives it
abbrev pub answers_from : ℕ → Option ℕ → ℕ → ℕ → List Answer
answers_from number wakes first second =
    Answer.Refused number
    ∷ Answer.Open (first % 256) second
    ∷ Answer.Holds (place (first % 4294967296))
    ∷ Answer.Waits
    ∷ Answer.Region (place (first % 4294967296)) (second % 65536) wakes
    ∷ Answer.Wrote (position first)
    ∷ Answer.Record first
    ∷ Answer.None
    ∷ Answer.Freed wakes
    ∷ Answer.Gathered
    ∷ Answer.Ordered (place (first % 4294967296)) second
    ∷ Answer.View
    ∷ Answer.Seek (place (first % 4294967296))
    ∷ []

-- the answer that numbers name
abbrev pub answer_of : List ℕ → Answer
answer_of v =
    get_or (answers_from (get_or v 1 0) (wakes_of (get_or v 2 0) (get_or v 3 0)) (get_or v 4 0) (get_or v 5 0)) (get_or v 0 0) Answer.None

abbrev pub answer_in : List ℕ → Answer
answer_in bytes = answer_of (fields_in answer_lengths bytes)

-- bytes are an answer's where there are as many and they are those of the answer that they name. Bytes past them are not looked at
abbrev pub is_answer : List ℕ → Bool
is_answer bytes = leb answer_length (length bytes) && same_numbers (fields_in answer_lengths bytes) (answer_numbers (answer_in bytes))

-- ---- what an answer says, read off its bytes
-- how many values a word has
abbrev pub value_count : ℕ → ℕ
value_count word = get_or (0 ∷ 2 ∷ 1 ∷ 0 ∷ 2 ∷ 1 ∷ 1 ∷ 0 ∷ 0 ∷ 0 ∷ 2 ∷ 0 ∷ 1 ∷ []) word 0

abbrev pub said_of : List ℕ → Said
said_of v =
    record {
      accepted = not (eqb (get_or v 0 0) 0);
      number = get_or v 1 0;
      values = take (value_count (get_or v 0 0)) (get_or v 4 0 ∷ get_or v 5 0 ∷ []) ++ take (get_or v 2 0) (get_or v 3 0 ∷ []);
    }

abbrev pub said_in : List ℕ → Said
said_in bytes = said_of (fields_in answer_lengths bytes)
