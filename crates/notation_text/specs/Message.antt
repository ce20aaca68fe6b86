-- The message of a parse that failed: where, what was expected and what was found there. Not in document 01: the contract of notation_text::show_parse.
use Rattle.std.specs.Prelude.{ℕ, cond, List, [], ◌∷◌, ◌++◌, eqb, ltb, Option, Some, None, Result, Ok, Err}
use Rattle.printout.specs.Text.{ascii}
use Rattle.printout.specs.Print.{decimal, hex_in}
use Rattle.notation.specs.Notation.{is_line_end}
use Rattle.notation.specs.declared.ParseError.{ParseError}
use Rattle.notation.specs.declared.Spot.{Spot}

-- the longest message: a line and a column of 20 digits each, a second digit expected and a byte of a sheet found
abbrev pub most_message : ℕ
most_message = 156

abbrev pub place_text : Spot → List ℕ
place_text s = ascii "line " ++ (decimal s.line ++ (ascii ", column " ++ (decimal s.column ++ ascii ":")))

-- ---- what was found, to the line's end
-- a byte by its number
abbrev pub byte_text : ℕ → List ℕ
byte_text c = ascii "the byte " ++ hex_in 2 c

-- a kind, 01 to 0C, with which the events of a sheet begin; a character that can be printed, by itself; any other by its number
abbrev pub other_line : ℕ → List ℕ
other_line c =
    cond (ltb c 1) (byte_text c ++ ascii "\n")
    (cond (ltb c 13) (byte_text c ++ ascii ": the text looks like a sheet's bytes already\n")
    (cond (ltb c 33) (byte_text c ++ ascii "\n") (cond (ltb c 127) (ascii "'" ++ c ∷ ascii "'\n") (byte_text c ++ ascii "\n"))))

unfoldable pub character_line : ℕ → List ℕ
character_line c =
    cond (eqb c 32) (ascii "a blank\n")
    (cond (eqb c 9) (ascii "a tab\n")
    (cond (eqb c 44) (ascii "a comma\n") (cond (is_line_end c) (ascii "a line end\n") (cond (eqb c 35) (ascii "a comment\n") (other_line c)))))

abbrev pub found_line : Option ℕ → List ℕ
found_line (Some c) = character_line c
found_line None = ascii "the end of the text\n"

-- ---- the line of a parse that failed; one that did not has none
unfoldable pub parse_line : Result ℕ ParseError → List ℕ
parse_line (Ok n) = []
parse_line (Err (ParseError.NoDigit s c)) = place_text s ++ (ascii " expected a hexadecimal digit, found " ++ character_line c)
parse_line (Err (ParseError.NoSecond s found)) = place_text s ++ (ascii " expected the second digit of a byte, found " ++ found_line found)
parse_line (Err ParseError.TooLong) = ascii "the text is longer than 1048576 bytes\n"
parse_line (Err ParseError.TooShort) = ascii "the bytes do not fit the buffer\n"
