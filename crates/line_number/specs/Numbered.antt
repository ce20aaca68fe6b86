-- A line's number and the blank after it as the bytes of a word, and stored in a lent buffer. Tied to `answer_line` by line_number/Answers: answer_line_lem.
use Rattle.std.specs.Prelude.{ℕ, ◌+◌, ◌-◌, ◌%◌, ◌^◌, ◌≤◌, ◌≡◌, ◌⊎◌, List, ◌∷◌, ◌++◌, length, replicate}
use Rattle.std.proofs.lemmas.List.Edits.{sets}
use Rattle.event.specs.BigEndian.{number_of}
use Rattle.printout.specs.Print.{decimal}
use Rattle.line_number.specs.declared.LineNumber.{LineNumber}

-- of a number of two to seven digits: its digits as bytes, how many they and the blank are, and 1 in the byte of the blank where a word begins with them
pub record InDigits (n digits width blank : ℕ) : Type 0 where
  pub stands : digits ≡ number_of (decimal n)
  pub counts : width ≡ length (decimal n) + 1
  pub least : 3 ≤ width
  pub most : width ≤ 8
  pub place : blank ≡ 256 ^ (8 - width)

-- eight bytes: the digits of a number, a blank, and zeros after that width
abbrev pub word_bytes : ℕ → ℕ → List ℕ
word_bytes n width = decimal n ++ 32 ∷ replicate (8 - width) 0

-- no bytes are kept
pub record NoBytes (own : LineNumber) : Type 0 where
  pub word : own.word ≡ 0
  pub width : own.width ≡ 0
  pub unit : own.unit ≡ 0

-- the word has the eight bytes, the first highest, of which at most five are zeros after the blank; the unit is 1 in the byte of the last digit
pub record InBytes (n : ℕ) (own : LineNumber) : Type 0 where
  pub width : own.width ≡ length (decimal n) + 1
  pub least : 3 ≤ own.width
  pub most : own.width ≤ 8
  pub word : own.word ≡ number_of (word_bytes n own.width)
  pub unit : own.unit ≡ 256 ^ (9 - own.width)

-- the number, by the next one whose last digit is 0
abbrev pub number_in : LineNumber → ℕ
number_in own = own.ten - own.left

-- the number, its bytes or none, and how many numbers, from it on, have the same digits but the last
pub record Keeps (n : ℕ) (own : LineNumber) : Type 0 where
  pub number : own.ten ≡ n + own.left
  pub left : own.left ≡ 10 - n % 10
  pub bytes : NoBytes own ⊎ InBytes n own

-- the number and the blank stand from an index on, with at most five bytes after them; every other byte is as it was, and the answer is the index after the blank
pub record Numbered (n : ℕ) (before : List ℕ) (at : ℕ) (after : List ℕ) (answer : ℕ) : Type 0 where
  pub past : List ℕ
  pub few : length past ≤ 5
  pub bytes : after ≡ sets before at (decimal n ++ 32 ∷ past)
  pub ends : answer ≡ at + length (decimal n) + 1
