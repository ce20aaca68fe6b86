-- A line with the lent book's bytes, and the line with one part changed.
use Rattle.std.specs.Prelude.{ℕ, List, set}
use Rattle.view.specs.declared.Place.{Place}
use Rattle.view.specs.declared.View.{View}
use Rattle.line.specs.declared.Phase.{Phase}
use Rattle.line.specs.declared.Line.{Line}
use Rattle.line.specs.declared.Lane.{Lane}
use Rattle.line.specs.Line.{lane, unopened}
use Rattle.steps.specs.declared.Answer.{Answer}

-- the line and the lent book (the file of source document 001), byte by byte
pub record State : Type 0 where
  pub line : Line
  pub book : List ℕ

-- an unopened line and a lent book
abbrev pub fresh : List ℕ → State
fresh book = record { line = unopened; book = book }

-- what a call gives: its answer, and the line and the book that it leaves
pub record Result : Type 0 where
  pub answer : Answer
  pub after : State

abbrev pub leaves : Answer → Line → List ℕ → Result
leaves answer line book = record { answer = answer; after = record { line = line; book = book } }

abbrev pub with_lanes : Line → List Lane → Line
with_lanes l lanes =
    record { lanes = l.lanes; capacity = l.capacity; size = l.size; pointer = l.pointer; view = l.view; lane = lanes; flag = l.flag }

abbrev pub with_phase : Line → ℕ → Phase → Line
with_phase l i x = with_lanes l (set l.lane i (lane x))

abbrev pub with_flag : Line → ℕ → ℕ → Line
with_flag l i f =
    record { lanes = l.lanes; capacity = l.capacity; size = l.size; pointer = l.pointer; view = l.view; lane = l.lane; flag = set l.flag i f }

abbrev pub with_pointer : Line → Place → Line
with_pointer l p =
    record { lanes = l.lanes; capacity = l.capacity; size = l.size; pointer = p; view = l.view; lane = l.lane; flag = l.flag }

abbrev pub with_size : Line → ℕ → Line
with_size l n =
    record { lanes = l.lanes; capacity = l.capacity; size = n; pointer = l.pointer; view = l.view; lane = l.lane; flag = l.flag }

abbrev pub with_view : Line → View → Line
with_view l v =
    record { lanes = l.lanes; capacity = l.capacity; size = l.size; pointer = l.pointer; view = v; lane = l.lane; flag = l.flag }
