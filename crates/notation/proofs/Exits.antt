-- Where what is wrong in a text stands, and how many bytes a parse stores.
use Rattle.std.proofs.Common.{ℕ, ◌+◌, ◌≤◌, ◌<◌, ◌≡◌, List, [], ◌∷◌, length, arith, Option, Some, None, Result, Ok, Err}
use lib.Dec.{ltb}
use borrow.Author.Tests.{ltb-false}
use Rattle.lists.proofs.Tests.{by_test}
use Rattle.notation.specs.Notation.{StandsIn, character_step, end_fault, fault_by, fault_from, fault_of, missing_at, most_notation, notation_bytes, parsed_by, parsed_of, past_mark, stored_of}
use Rattle.notation.specs.declared.Fault.{Fault}
use Rattle.notation.specs.declared.ParseError.{ParseError}
use Rattle.notation.specs.declared.State.{State}

-- ---- what is missing is missing within the text
abbrev Stands : ℕ → Option Fault → Type 0
Stands n None = 0 ≤ n
Stands n (Some fault) = StandsIn n fault

missing_stands : (s : State) (at n : ℕ) → at < n → StandsIn n (missing_at s at)
missing_stands State.Between at n h = h
missing_stands State.Comment at n h = h
missing_stands (State.First high) at n h = omega arith
missing_stands (State.Byte value) at n h = h

end_stands : (s : State) (at : ℕ) → Stands (at + 0) (end_fault s at)
end_stands State.Between at = omega arith
end_stands State.Comment at = omega arith
end_stands (State.First high) at = omega arith
end_stands (State.Byte value) at = omega arith

fault_stands_by : (n : ℕ) (here : Fault) (o : Option State) (rest : State → Option Fault) → StandsIn n here → ((s : State) → Stands n (rest s)) → Stands n (fault_by here o rest)
fault_stands_by n here None rest a b = a
fault_stands_by n here (Some s) rest a b = b s

fault_from_stands : (text : List ℕ) (s : State) (at : ℕ) → Stands (at + length text) (fault_from at s text)
unfolding fault_from
fault_from_stands [] s at = end_stands s at
fault_from_stands (c ∷ cs) s at =
    let n = at + length (c ∷ cs) in
    let same : at + 1 + length cs ≡ n = omega arith in
    fault_stands_by n (missing_at s at) (character_step s c) _ (missing_stands s at n (omega arith))
    (λ t. rw same at (fault_from_stands cs t (at + 1)))

pub fault_stands : (text : List ℕ) (fault : Fault) → fault_of text ≡ Some fault → StandsIn (length text) fault
fault_stands text fault e =
    let same : 0 + length text ≡ length text = omega arith in
    let within : StandsIn (0 + length text) fault = rw e at (fault_from_stands text State.Between 0) in
    rw same at within

pub digit_within : (text : List ℕ) (at : ℕ) → fault_of text ≡ Some (Fault.NoDigit at) → at < length text
digit_within text at e = fault_stands text (Fault.NoDigit at) e

pub second_within : (text : List ℕ) (at : ℕ) → fault_of text ≡ Some (Fault.NoSecond at) → at ≤ length text
second_within text at e = fault_stands text (Fault.NoSecond at) e

-- ---- the bytes of a parse that did not fail are within the buffer
refused_none : {X : Type 0} (error : ParseError) (n : ℕ) → ◌≡◌ {A = Result ℕ ParseError} (Err error) (Ok n) → X
refused_none error n e = let z : ◌≡◌ {A = ℕ} 0 1 = cc in absurd (omega arith)

same_count : (m n : ℕ) → ◌≡◌ {A = Result ℕ ParseError} (Ok m) (Ok n) → m ≡ n
same_count m n e = cc

module _ (text : List ℕ) (room n : ℕ) where
  stored_fits : stored_of text room ≡ Ok n → n ≤ room
  stored_fits q =
      by_test (ltb room (length (notation_bytes text)))
      (λ t. refused_none ParseError.TooShort n (rw t at q))
      (λ f. let e = same_count (length (notation_bytes text)) n (rw f at q) in omega (arith, e, ltb-false room (length (notation_bytes text)) f))

  by_fault : (f : Option Fault) → parsed_by text room f ≡ Ok n → n ≤ room
  by_fault (Some fault) q = let z : ◌≡◌ {A = ℕ} 0 1 = cc in absurd (omega arith)
  by_fault None q = stored_fits q

pub parsed_fits : (text : List ℕ) (room n : ℕ) → parsed_of text room ≡ Ok n → n ≤ room
parsed_fits text room n q =
    by_test (ltb most_notation (length text))
    (λ t. refused_none ParseError.TooLong n (rw t at q))
    (λ f. by_fault (past_mark text) room n (fault_of (past_mark text)) (rw f at q))
