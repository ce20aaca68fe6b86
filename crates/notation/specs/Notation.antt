-- The notation of the papers: pairs of hexadecimal digits, free characters between them, comments from # on. Not defined by document 01: the contracts of notation::parse and notation::looks_like_notation.
use Rattle.std.specs.Prelude.{ℕ, ◌+◌, ◌*◌, ◌-◌, ◌<◌, ◌≤◌, ⊤, Bool, false, cond, ◌||◌, List, [], ◌∷◌, ◌++◌, drop, get_or, length, take, eqb, ltb, Option, Some, None, Result, Ok, Err}
use Rattle.std.specs.Option.{is_some, option_map, unwrap_or}
use Rattle.std.proofs.lemmas.List.Edits.{sets}
use Rattle.notation.specs.declared.Fault.{Fault}
use Rattle.notation.specs.declared.ParseError.{ParseError}
use Rattle.notation.specs.declared.Spot.{Spot}
use Rattle.notation.specs.declared.State.{State}

-- ---- characters
-- the value of a hexadecimal digit, in upper or lower case
abbrev pub digit_of : ℕ → Option ℕ
digit_of c =
    cond (ltb c 48) None
    (cond (ltb c 58) (Some (c - 48))
    (cond (ltb c 65) None (cond (ltb c 71) (Some (c - 55)) (cond (ltb c 97) None (cond (ltb c 103) (Some (c - 87)) None)))))

-- a line feed or a carriage return
abbrev pub is_line_end : ℕ → Bool
is_line_end c = eqb c 10 || eqb c 13

-- a blank, a tab, a comma or a line end
abbrev pub is_free : ℕ → Bool
is_free c = eqb c 32 || (eqb c 9 || (eqb c 44 || is_line_end c))

-- ---- a byte order mark, EF BB BF, at the start of a text
abbrev pub mark_length : List ℕ → ℕ
mark_length text =
    cond (ltb (length text) 3) 0
    (cond (eqb (get_or text 0 0) 239) (cond (eqb (get_or text 1 0) 187) (cond (eqb (get_or text 2 0) 191) 3 0) 0) 0)

abbrev pub past_mark : List ℕ → List ℕ
past_mark text = drop (mark_length text) text

-- ---- whether bytes look like notation: past a mark, the first that is not free is a digit or the # of a comment
abbrev pub begins_notation : ℕ → Bool
begins_notation c = eqb c 35 || is_some (digit_of c)

unfoldable pub opens_notation : List ℕ → Bool
opens_notation [] = false
opens_notation (c ∷ cs) = cond (is_free c) (opens_notation cs) (begins_notation c)

abbrev pub looks_like_notation : List ℕ → Bool
looks_like_notation text = opens_notation (past_mark text)

-- ---- the state after a character; none where it may not stand there
-- in a comment: a line end ends it
abbrev pub comment_step : ℕ → State
comment_step c = cond (is_line_end c) State.Between State.Comment

-- between bytes
abbrev pub between_step : ℕ → Option State
between_step c = cond (eqb c 35) (Some State.Comment) (cond (is_free c) (Some State.Between) (option_map State.First (digit_of c)))

-- after the first digit of a byte: its second digit alone
abbrev pub second_step : ℕ → ℕ → Option State
second_step high c = option_map (λ (low : ℕ). State.Byte (high * 16 + low)) (digit_of c)

abbrev pub character_step : State → ℕ → Option State
character_step State.Between c = between_step c
character_step State.Comment c = Some (comment_step c)
character_step (State.First high) c = second_step high c
character_step (State.Byte value) c = between_step c

-- past a character that may not stand there a text goes on as between bytes
abbrev pub after : State → ℕ → State
after s c = unwrap_or (character_step s c) State.Between

-- past the end of a byte a text goes on as between bytes
abbrev pub settled : State → State
settled State.Between = State.Between
settled State.Comment = State.Comment
settled (State.First high) = State.First high
settled (State.Byte value) = State.Between

-- the first digit of a byte is one
abbrev pub Fits : State → Type 0
Fits State.Between = ⊤
Fits State.Comment = ⊤
Fits (State.First high) = high < 16
Fits (State.Byte value) = ⊤

-- ---- the bytes of a text
abbrev pub made_of : State → List ℕ
made_of State.Between = []
made_of State.Comment = []
made_of (State.First high) = []
made_of (State.Byte value) = value ∷ []

unfoldable pub bytes_from : State → List ℕ → List ℕ
bytes_from s [] = []
bytes_from s (c ∷ cs) = made_of (after s c) ++ bytes_from (after s c) cs

abbrev pub notation_bytes : List ℕ → List ℕ
notation_bytes text = bytes_from State.Between text

-- ---- what is wrong in a text first: no digit, or no second digit after a byte's first, by the index of what stands there instead
abbrev pub missing_at : State → ℕ → Fault
missing_at State.Between at = Fault.NoDigit at
missing_at State.Comment at = Fault.NoDigit at
missing_at (State.First high) at = Fault.NoSecond at
missing_at (State.Byte value) at = Fault.NoDigit at

-- where a text ends only a second digit can be missing
abbrev pub end_fault : State → ℕ → Option Fault
end_fault State.Between at = None
end_fault State.Comment at = None
end_fault (State.First high) at = Some (Fault.NoSecond at)
end_fault (State.Byte value) at = None

-- a fault where the state after a character is none, or else that of the rest
abbrev pub fault_by : Fault → Option State → (State → Option Fault) → Option Fault
fault_by here None rest = Some here
fault_by here (Some s) rest = rest s

unfoldable pub fault_from : ℕ → State → List ℕ → Option Fault
fault_from at s [] = end_fault s at
fault_from at s (c ∷ cs) = fault_by (missing_at s at) (character_step s c) (λ (t : State). fault_from (at + 1) t cs)

abbrev pub fault_of : List ℕ → Option Fault
fault_of text = fault_from 0 State.Between text

-- a digit is missing at a character of a text of this length, a second digit at a character or at the end
abbrev pub StandsIn : ℕ → Fault → Type 0
StandsIn n (Fault.NoDigit at) = at < n
StandsIn n (Fault.NoSecond at) = at ≤ n

-- what stands at an index; none at the end
abbrev pub found_at : List ℕ → ℕ → Option ℕ
found_at text at = cond (ltb at (length text)) (Some (get_or text at 0)) None

-- ---- the line and the column after a text, both from 1: a line ends at LF, at CR LF and at a lone CR
abbrev pub spot : ℕ → ℕ → Spot
spot line column = record { line = line; column = column }

-- past a character, by the one before it
abbrev pub spot_past : Spot → ℕ → ℕ → Spot
spot_past s previous c =
    cond (eqb c 13) (spot (s.line + 1) 1)
    (cond (eqb c 10) (cond (eqb previous 13) s (spot (s.line + 1) 1)) (spot s.line (s.column + 1)))

unfoldable pub spot_from : Spot → ℕ → List ℕ → Spot
spot_from s previous [] = s
spot_from s previous (c ∷ cs) = spot_from (spot_past s previous c) c cs

abbrev pub spot_of : List ℕ → Spot
spot_of text = spot_from (spot 1 1) 0 text

-- ---- the parse of a text into a lent buffer
abbrev pub most_notation : ℕ
most_notation = 1048576

abbrev pub stored_of : List ℕ → ℕ → Result ℕ ParseError
stored_of text room = cond (ltb room (length (notation_bytes text))) (Err ParseError.TooShort) (Ok (length (notation_bytes text)))

abbrev pub stored_to : List ℕ → List ℕ → List ℕ
stored_to text out = cond (ltb (length out) (length (notation_bytes text))) out (sets out 0 (notation_bytes text))

-- a fault, by line and column and with what was found
abbrev pub error_of : List ℕ → Fault → ParseError
error_of text (Fault.NoDigit at) = ParseError.NoDigit (spot_of (take at text)) (get_or text at 0)
error_of text (Fault.NoSecond at) = ParseError.NoSecond (spot_of (take at text)) (found_at text at)

-- of a text past its mark
abbrev pub parsed_by : List ℕ → ℕ → Option Fault → Result ℕ ParseError
parsed_by text room (Some fault) = Err (error_of text fault)
parsed_by text room None = stored_of text room

abbrev pub parsed_past : List ℕ → ℕ → Result ℕ ParseError
parsed_past text room = parsed_by text room (fault_of text)

abbrev pub parsed_of : List ℕ → ℕ → Result ℕ ParseError
parsed_of text room = cond (ltb most_notation (length text)) (Err ParseError.TooLong) (parsed_past (past_mark text) room)

-- the buffer after it: the bytes from its start on, or all as it was
abbrev pub left_by : List ℕ → List ℕ → Option Fault → List ℕ
left_by text out (Some fault) = out
left_by text out None = stored_to text out

abbrev pub left_past : List ℕ → List ℕ → List ℕ
left_past text out = left_by text out (fault_of text)

abbrev pub left_of : List ℕ → List ℕ → List ℕ
left_of text out = cond (ltb most_notation (length text)) out (left_past (past_mark text) out)
