-- Document 01, "One sheet, whole": what `linebook` prints of a sheet, to the byte.
use Rattle.std.specs.Prelude.{Option, ℕ, zero, suc, ◌+◌, ◌/◌, ◌%◌, ◌^◌, cond, List, [], ◌∷◌, ◌++◌, map, drop, length, replicate, take, ltb, leb}
use Rattle.limits.specs.Limits.{most_capacity, most_sheet}
use Rattle.view.specs.declared.Place.{Place}
use Rattle.waitlist.specs.NextLane.{wakes_values}
use Rattle.steps.specs.Answer.{said_by}
use Rattle.steps.specs.State.{State, fresh}
use Rattle.steps.specs.declared.Answer.{Answer}
use Rattle.printout.specs.Run.{Ran, run}
use Rattle.printout.specs.Text.{ascii}

-- ---- numbers
-- a number in decimal; `more` bounds the digits before the last
unfoldable pub decimal_in : ℕ → ℕ → List ℕ
decimal_in zero n = (48 + n % 10) ∷ []
decimal_in (suc more) n = let front = decimal_in more (n / 10) in cond (ltb n 10) ((48 + n) ∷ []) (front ++ ((48 + n % 10) ∷ []))

abbrev pub decimal : ℕ → List ℕ
decimal n = decimal_in 20 n

-- a hexadecimal digit, in lowercase, and a number in `width` of them
abbrev pub hex_digit : ℕ → ℕ
hex_digit d = cond (ltb d 10) (48 + d) (87 + d)

unfoldable pub hex_in : ℕ → ℕ → List ℕ
hex_in zero n = []
hex_in (suc width) n = hex_digit (n / 16 ^ width) ∷ hex_in width (n % 16 ^ width)

-- ---- a line is words with single blanks between them
unfoldable pub words : List (List ℕ) → List ℕ
words [] = []
words (w ∷ []) = w ++ ascii "\n"
words (w ∷ v ∷ ws) = w ++ ascii " " ++ words (v ∷ ws)

-- "`wakes` and the lane or `none`", by the values that a release has of it
abbrev pub wakes_text : List ℕ → List (List ℕ)
wakes_text [] = ascii "wakes" ∷ ascii "none" ∷ []
wakes_text (i ∷ more) = ascii "wakes" ∷ decimal i ∷ []

abbrev pub wakes_words : Option ℕ → List (List ℕ)
wakes_words w = wakes_text (wakes_values w)

-- "the answer, its values": a word, and the values that the answer says, in decimal
abbrev pub value_words : Answer → List (List ℕ)
value_words a = map decimal (said_by a).values

unfoldable pub answer_words : Answer → List (List ℕ)
answer_words (Answer.Open lanes capacity) = ascii "open" ∷ value_words (Answer.Open lanes capacity)
answer_words (Answer.Holds pointer) = ascii "holds" ∷ value_words (Answer.Holds pointer)
answer_words Answer.Waits = ascii "waits" ∷ value_words Answer.Waits
answer_words (Answer.Region start count wakes) =
    ascii "region" ∷ take 2 (value_words (Answer.Region start count wakes)) ++ wakes_text (drop 2 (said_by (Answer.Region start count wakes)).values)
answer_words (Answer.Wrote position) = ascii "wrote" ∷ value_words (Answer.Wrote position)
answer_words (Answer.Record content) = ascii "record" ∷ map (hex_in 16) (said_by (Answer.Record content)).values
answer_words Answer.None = ascii "none" ∷ value_words Answer.None
answer_words (Answer.Freed wakes) = ascii "freed" ∷ wakes_text (said_by (Answer.Freed wakes)).values
answer_words Answer.Gathered = ascii "gathered" ∷ value_words Answer.Gathered
answer_words (Answer.Ordered before total) = ascii "ordered" ∷ value_words (Answer.Ordered before total)
answer_words Answer.View = ascii "view" ∷ value_words Answer.View
answer_words (Answer.Seek pointer) = ascii "seek" ∷ value_words (Answer.Seek pointer)
answer_words (Answer.Refused number) = ascii "refused" ∷ decimal (said_by (Answer.Refused number)).number ∷ value_words (Answer.Refused number)

-- "a line an event: its number from 0, the answer, its values"
abbrev pub answer_line : ℕ → Answer → List ℕ
answer_line number answer = words (decimal number ∷ answer_words answer)

unfoldable pub answer_lines : ℕ → List Answer → List ℕ
answer_lines k [] = []
answer_lines k (a ∷ as') = answer_line k a ++ answer_lines (suc k) as'

-- "Last comes `end`, size, pointer"
abbrev pub end_line_of : ℕ → Place → List ℕ
end_line_of size pointer = words (ascii "end" ∷ decimal size ∷ decimal pointer.0 ∷ [])

abbrev pub end_line : State → List ℕ
end_line x = end_line_of x.line.size x.line.pointer

abbrev pub printed : Ran → List ℕ
printed r = answer_lines 0 r.answers ++ end_line r.after

-- ---- `linebook`: an unopened line and a book of 65,536 bytes
abbrev pub fresh_state : State
fresh_state = fresh (replicate most_capacity 0)

-- "(at most 65,536 bytes, else its one line is `sheet too long`)"
unfoldable pub linebook : List ℕ → List ℕ
linebook sheet = cond (leb (length sheet) most_sheet) (printed (run fresh_state sheet)) (ascii "sheet too long\n")
