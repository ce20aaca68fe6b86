-- A line with more idle entries past its own, and what it means that these do not show.
use Rattle.std.specs.Prelude.{ℕ, ◌≤◌, ◌≡◌, ◌++◌, length, replicate}
use Rattle.line.specs.declared.Line.{Line}
use Rattle.line.specs.Line.{idle_lane}
use Rattle.event.specs.Event.{Call}
use Rattle.steps.specs.State.{Result, State}
use Rattle.steps.specs.Step.{step}

-- the line with so many idle entries with flag 0 behind its own
abbrev pub widened : ℕ → Line → Line
widened more l =
    record {
      lanes = l.lanes;
      capacity = l.capacity;
      size = l.size;
      pointer = l.pointer;
      view = l.view;
      lane = l.lane ++ replicate more idle_lane;
      flag = l.flag ++ replicate more 0;
    }

-- each of its N lanes has an entry, and each entry has a flag
pub record HasEntries (l : Line) : Type 0 where
  pub enough : l.lanes ≤ length l.lane
  pub flags : length l.flag ≡ length l.lane

-- two states that are one but for idle entries
pub record Wider (wide narrow : State) : Type 0 where
  pub more : ℕ
  pub line : wide.line ≡ widened more narrow.line
  pub book : wide.book ≡ narrow.book
  pub entries : HasEntries narrow.line

-- what one call gives on the two: the same answer, and states that are one again
pub record SameStep (wide narrow : Result) : Type 0 where
  pub answer : wide.answer ≡ narrow.answer
  pub after : Wider wide.after narrow.after

-- a line with more idle entries past N answers every call the same
abbrev pub EntriesDoNotShow : Type 0
EntriesDoNotShow = (wide narrow : State) → Wider wide narrow → (c : Call) → SameStep (step wide c) (step narrow c)
