-- Sheets in words, by the table of kinds: a line an event, or why bytes are none. Not in document 01: the contracts of event_text::show_event and event_text::show_refusal.
use Rattle.std.specs.Prelude.{ℕ, ◌-◌, cond, List, [], ◌∷◌, ◌++◌, map, ltb, get_or, length, replicate}
use Rattle.view.specs.View.{block}
use Rattle.view.specs.declared.Block.{Block}
use Rattle.event.specs.Kinds.{Field, Form, block_length, block_start, in_hex, kind_at, plain, with_sign}
use Rattle.event.specs.Event.{block_list, fields_of, kind_of}
use Rattle.event.specs.declared.Event.{Event}
use Rattle.number_text.specs.Stored.{Stored}
use Rattle.printout.specs.Text.{ascii}
use Rattle.printout.specs.Print.{decimal, hex_in, words}
use Rattle.event_text.specs.Reasons.{reason_text}

-- the longest line that a function here asks room for
abbrev pub most_event_line : ℕ
most_event_line = 640

-- the longest line of an event from its kind's word on: a view's three names with a number of 20 digits each, and eight blocks
abbrev pub most_words : ℕ
most_words = 466

-- two texts stored one after the other, as `Stored` says it of one
pub record StoredTwo (xs ys before : List ℕ) (at : ℕ) (after : List ℕ) (answer : ℕ) : Type 0 where
  pub both : Stored (xs ++ ys) before at after answer

-- a number of two's complement in four bytes, in decimal with its sign
abbrev pub signed_text : ℕ → List ℕ
signed_text n = cond (ltb n 2147483648) (decimal n) (ascii "-" ++ decimal (4294967296 - n))

-- a block: `(start, length)`
abbrev pub block_text : Block → List ℕ
block_text b = ascii "(" ++ ((decimal b.start ++ ascii ",") ++ (ascii " " ++ (decimal b.length ++ ascii ")")))

abbrev pub block_words : List Block → List (List ℕ)
block_words b = map block_text (block_list b)

-- ---- an event in words, by the table of kinds
-- a field: its name and its number; a block stands without names
abbrev pub field_words : Form → List ℕ → ℕ → List ℕ → List (List ℕ) → List (List ℕ)
field_words plain name v later more = name ∷ decimal v ∷ more
field_words in_hex name v later more = name ∷ hex_in 16 v ∷ more
field_words with_sign name v later more = name ∷ signed_text v ∷ more
field_words block_start name v later more = block_text (block v (get_or later 0 0)) ∷ more
field_words block_length name v later more = more

abbrev pub fields_words : List Field → List ℕ → List (List ℕ)
fields_words [] vs = []
fields_words (f ∷ fs) [] = []
fields_words (f ∷ fs) (v ∷ vs) = field_words f.form (ascii f.name) v vs (fields_words fs vs)

-- a kind's word, with blanks to the width of the longest, `receive`
abbrev pub kind_word : List ℕ → List ℕ
kind_word w = w ++ replicate (7 - length w) 32

-- the kind's word and the fields, in the body's order
unfoldable pub event_words : Event → List (List ℕ)
event_words e = kind_word (ascii (kind_at (kind_of e)).word) ∷ fields_words (kind_at (kind_of e)).fields (fields_of e)

-- the event's number from 0, then its words
abbrev pub event_line : ℕ → Event → List ℕ
event_line number e = (decimal number ++ ascii " ") ++ words (event_words e)

-- the line at bytes that are no event, by the number of their refusal
abbrev pub refusal_line : ℕ → ℕ → ℕ → List ℕ
refusal_line number at k = words (decimal number ∷ ascii "at byte" ∷ (decimal at ++ ascii ":") ∷ reason_text k ∷ [])
