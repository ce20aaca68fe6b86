-- An answer's bytes say what the answer says, and are read back as that answer where its values are of their types; bytes that are an answer's are its bytes.
use Rattle.std.specs.Prelude.{Some, None}
use Prim.Native.Nat.{ℕ, ◌≤◌, ◌<◌}
use mathlib.Core.Path.{◌≡◌, refl, sym, ap, ◌∙◌}
use mathlib.Core.Bool.{true}
use mathlib.Core.List.{List, ◌++◌}
use native.Mathlib.Nat.{mod-eq_of_lt}
use native.Mathlib.Omega.{arith}
use lib.Dec.{leb}
use lib.ListN.{length, length-append, take}
use borrow.Author.Tests.{le-leb, leb-true}
use Rattle.lists.proofs.Counts.{is_same, same_is}
use Rattle.lists.proofs.Tests.{and_left, and_right}
use Rattle.event.specs.Event.{bytes_of, fields_in}
use Rattle.event.specs.Typed.{AreBytes}
use Rattle.event.proofs.Fields.{bytes_length, bytes_of_fields, fields_of_any}
use Rattle.steps.specs.Answer.{said_by}
use Rattle.steps.specs.declared.Answer.{Answer}
use Rattle.answer_bytes.specs.AnswerBytes.{answer_bytes, answer_in, answer_length, answer_lengths, answer_numbers, answer_of, is_answer, said_in, said_of}

-- six numbers, whichever the answer
numbers_counted : (a : Answer) → length answer_lengths ≡ length (answer_numbers a)
numbers_counted (Answer.Open n m) = refl
numbers_counted (Answer.Holds p) = refl
numbers_counted Answer.Waits = refl
numbers_counted (Answer.Region p n w) = refl
numbers_counted (Answer.Wrote p) = refl
numbers_counted (Answer.Record n) = refl
numbers_counted Answer.None = refl
numbers_counted (Answer.Freed w) = refl
numbers_counted Answer.Gathered = refl
numbers_counted (Answer.Ordered p n) = refl
numbers_counted Answer.View = refl
numbers_counted (Answer.Seek p) = refl
numbers_counted (Answer.Refused n) = refl

pub answer_length_lem : (a : Answer) → length (answer_bytes a) ≡ answer_length
answer_length_lem a = bytes_length answer_lengths (answer_numbers a) (numbers_counted a)

fields_back : (a : Answer) (more : List ℕ) → fields_in answer_lengths (answer_bytes a ++ more) ≡ answer_numbers a
fields_back a more = fields_of_any answer_lengths (answer_numbers a) more (numbers_counted a) refl

-- ---- what an answer says can be read off its bytes, whatever its values
said_back : (a : Answer) → said_of (answer_numbers a) ≡ said_by a
said_back (Answer.Open n m) = refl
said_back (Answer.Holds p) = refl
said_back Answer.Waits = refl
said_back (Answer.Region p n (Some i)) = refl
said_back (Answer.Region p n None) = refl
said_back (Answer.Wrote p) = refl
said_back (Answer.Record n) = refl
said_back Answer.None = refl
said_back (Answer.Freed (Some i)) = refl
said_back (Answer.Freed None) = refl
said_back Answer.Gathered = refl
said_back (Answer.Ordered p n) = refl
said_back Answer.View = refl
said_back (Answer.Seek p) = refl
said_back (Answer.Refused n) = refl

pub said_there : (a : Answer) (more : List ℕ) → said_in (answer_bytes a ++ more) ≡ said_by a
said_there a more = ap (λ (v : List ℕ). said_of v) (fields_back a more) ∙ said_back a

-- ---- an answer whose values are of their types is read back
-- what reading back needs of its values, which the types of `Answer` hold
abbrev pub AnswerFits : Answer → Type 0
AnswerFits (Answer.Open n m) = n < 256
AnswerFits (Answer.Holds p) = p.0 < 4294967296
AnswerFits Answer.Waits = Unit {0}
AnswerFits (Answer.Region p n w) = (p.0 < 4294967296) × (n < 65536)
AnswerFits (Answer.Wrote p) = Unit {0}
AnswerFits (Answer.Record n) = Unit {0}
AnswerFits Answer.None = Unit {0}
AnswerFits (Answer.Freed w) = Unit {0}
AnswerFits Answer.Gathered = Unit {0}
AnswerFits (Answer.Ordered p n) = p.0 < 4294967296
AnswerFits Answer.View = Unit {0}
AnswerFits (Answer.Seek p) = p.0 < 4294967296
AnswerFits (Answer.Refused n) = Unit {0}

answer_back : (a : Answer) → AnswerFits a → answer_of (answer_numbers a) ≡ a
answer_back (Answer.Open n m) f = rw (mod-eq_of_lt f)
answer_back (Answer.Holds p) f = rw (mod-eq_of_lt f)
answer_back Answer.Waits f = refl
answer_back (Answer.Region p n (Some i)) f = rw (mod-eq_of_lt f.0, mod-eq_of_lt f.1)
answer_back (Answer.Region p n None) f = rw (mod-eq_of_lt f.0, mod-eq_of_lt f.1)
answer_back (Answer.Wrote p) f = refl
answer_back (Answer.Record n) f = refl
answer_back Answer.None f = refl
answer_back (Answer.Freed (Some i)) f = refl
answer_back (Answer.Freed None) f = refl
answer_back Answer.Gathered f = refl
answer_back (Answer.Ordered p n) f = rw (mod-eq_of_lt f)
answer_back Answer.View f = refl
answer_back (Answer.Seek p) f = rw (mod-eq_of_lt f)
answer_back (Answer.Refused n) f = refl

pub answer_read : (a : Answer) (more : List ℕ) → AnswerFits a → answer_in (answer_bytes a ++ more) ≡ a
answer_read a more f = ap (λ (v : List ℕ). answer_of v) (fields_back a more) ∙ answer_back a f

pub answer_told : (a : Answer) (more : List ℕ) → AnswerFits a → is_answer (answer_bytes a ++ more) ≡ true
answer_told a more f =
    let long : answer_length ≤ length (answer_bytes a ++ more) = omega (arith, length-append (answer_bytes a) more, answer_length_lem a) in
    rw (le-leb answer_length (length (answer_bytes a ++ more)) long, fields_back a more, answer_back a f) (is_same (answer_numbers a))

-- ---- bytes that are an answer's are its bytes, so that no two byte strings are one answer
pub answer_written : (bytes : List ℕ) → AreBytes bytes → is_answer bytes ≡ true → answer_bytes (answer_in bytes) ≡ take answer_length bytes
answer_written bytes b e =
    let long : answer_length ≤ length bytes = leb-true answer_length (length bytes) (and_left (leb answer_length (length bytes)) _ e) in
    let same = same_is (fields_in answer_lengths bytes) (answer_numbers (answer_in bytes)) (and_right (leb answer_length (length bytes)) _ e) in
    ap (bytes_of answer_lengths) (sym same) ∙ bytes_of_fields answer_lengths bytes b long
