-- How long a line is at most, by the types of the numbers in it.
use Rattle.std.specs.Prelude.{Some, None}
use Prim.Native.Nat.{ℕ, ◌≤◌, ◌<◌}
use mathlib.Core.Path.{◌≡◌, refl}
use mathlib.Core.List.{[], ◌∷◌}
use native.Mathlib.Omega.{arith}
use lib.ListN.{length}
use mir.Val.{Val}
use denote.Laws.{Is}
use denote.Enum.Declared.{row}
use denote.Enum.Laws.{owed}
use Rattle.view.specs.declared.Place.{Place}
use Rattle.steps.specs.declared.Answer.{Answer}
use Rattle.steps.specs.contracts.Answer as answer
use Rattle.steps.proofs.Answer.TheLaws as answer-laws
use Rattle.printout.specs.Print.{answer_line, answer_words, decimal, decimal_in, end_line_of, hex_in, words}
use Rattle.printout.specs.Text.{ascii}
use Rattle.number_text.proofs.Decimal.{few_digits}
use Rattle.number_text.proofs.Hex.{hex_length}
use Rattle.answer_text.specs.Printing.{most_line, most_values}
use Rattle.word_text.proofs.Words.{one_length, region_length, two_length, wakes_length}
use Rattle.answer_text.proofs.Answers.{answer_length_lem}

-- ---- the digits of a number of each type
digits_8 : (n : ℕ) → n < 256 → length (decimal n) ≤ 3
digits_8 n h = few_digits 2 n (omega arith)

digits_16 : (n : ℕ) → n < 65536 → length (decimal n) ≤ 5
digits_16 n h = few_digits 4 n (omega arith)

digits_32 : (n : ℕ) → n < 4294967296 → length (decimal n) ≤ 10
digits_32 n h = few_digits 9 n (omega arith)

digits_64 : (n : ℕ) → n < 18446744073709551616 → length (decimal n) ≤ 20
digits_64 n h = few_digits 19 n (omega arith)

-- ---- the line after an event's number; what a function's proof has of a parameter is `Is`, in `good`
pub values_short : (a : Answer) (v : Val) → Is (row answer.the_type) a (v ∷ []) → length (words (answer_words a)) ≤ most_values
unfolding answer_words words
values_short (Answer.Open lanes capacity) v g =
    let f = owed answer.the_type answer-laws.the_laws (Answer.Open lanes capacity) (v ∷ []) g in
    omega (arith, two_length (ascii "open") (decimal lanes) (decimal capacity), digits_8 lanes (search f), digits_32 capacity (search f))
values_short (Answer.Holds pointer) v g =
    let f = owed answer.the_type answer-laws.the_laws (Answer.Holds pointer) (v ∷ []) g in
    omega (arith, one_length (ascii "holds") (decimal pointer.0), digits_32 pointer.0 (search f))
values_short Answer.Waits v g = omega arith
values_short (Answer.Region start count (Some i)) v g =
    let f = owed answer.the_type answer-laws.the_laws (Answer.Region start count (Some i)) (v ∷ []) g in
    omega (
      arith,
      region_length (decimal start.0) (decimal count) (Some i),
      one_length (ascii "wakes") (decimal i),
      digits_32 start.0 (search f),
      digits_16 count (search f),
      digits_8 i (search f),
    )
values_short (Answer.Region start count None) v g =
    let f = owed answer.the_type answer-laws.the_laws (Answer.Region start count None) (v ∷ []) g in
    omega (arith, region_length (decimal start.0) (decimal count) None, digits_32 start.0 (search f), digits_16 count (search f))
values_short (Answer.Wrote position) v g =
    let f = owed answer.the_type answer-laws.the_laws (Answer.Wrote position) (v ∷ []) g in
    omega (arith, one_length (ascii "wrote") (decimal position.0), digits_64 position.0 (search f))
values_short (Answer.Record content) v g = omega (arith, one_length (ascii "record") (hex_in 16 content), hex_length 16 content)
values_short Answer.None v g = omega arith
values_short (Answer.Freed (Some i)) v g =
    let f = owed answer.the_type answer-laws.the_laws (Answer.Freed (Some i)) (v ∷ []) g in
    omega (arith, wakes_length (ascii "freed") (Some i), one_length (ascii "wakes") (decimal i), digits_8 i (search f))
values_short (Answer.Freed None) v g = omega arith
values_short Answer.Gathered v g = omega arith
values_short (Answer.Ordered before total) v g =
    let f = owed answer.the_type answer-laws.the_laws (Answer.Ordered before total) (v ∷ []) g in
    omega (
      arith,
      two_length (ascii "ordered") (decimal before.0) (decimal total),
      digits_32 before.0 (search f),
      digits_32 total (search f),
    )
values_short Answer.View v g = omega arith
values_short (Answer.Seek pointer) v g =
    let f = owed answer.the_type answer-laws.the_laws (Answer.Seek pointer) (v ∷ []) g in
    omega (arith, one_length (ascii "seek") (decimal pointer.0), digits_32 pointer.0 (search f))
values_short (Answer.Refused number) v g =
    let f = owed answer.the_type answer-laws.the_laws (Answer.Refused number) (v ∷ []) g in
    omega (arith, one_length (ascii "refused") (decimal number), digits_8 number (search f))

pub refused_short : (number : ℕ) → number < 256 → length (words (answer_words (Answer.Refused number))) ≤ most_values
unfolding answer_words words
refused_short number h = omega (arith, one_length (ascii "refused") (decimal number), digits_8 number h)

-- ---- the lines
pub line_short : (number : ℕ) (a : Answer) (v : Val) → number < 18446744073709551616 → Is (row answer.the_type) a (v ∷ []) → length (answer_line number a) ≤ most_line
line_short number a v h g = omega (arith, answer_length_lem (decimal number) a, digits_64 number h, values_short a v g)

pub end_short : (size : ℕ) (pointer : Place) → size < 4294967296 → pointer.0 < 4294967296 → length (end_line_of size pointer) ≤ most_line
end_short size pointer s p =
    omega (arith, two_length (ascii "end") (decimal size) (decimal pointer.0), digits_32 size s, digits_32 pointer.0 p)

-- no shorter buffer takes every line
pub longest : length (answer_line 18446744073709551615 (Answer.Region (record { 0 = 4294967295 }) 65535 None)) ≡ most_line
unfolding answer_words decimal_in words
longest = refl
