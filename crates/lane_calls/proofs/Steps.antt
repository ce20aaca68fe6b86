-- The change that is decided is the step of document 01, and keeps what a change keeps.
use Prim.Native.Nat.{ℕ, ◌≤◌}
use mathlib.Core.Path.{◌≡◌}
use mathlib.Core.Bool.{true}
use mathlib.Core.List.{List}
use lib.ListN.{length}
use Rattle.view.specs.declared.View.{View}
use Rattle.line.specs.declared.Line.{Line}
use Rattle.limits.specs.Limits.{most_lanes}
use Rattle.line.specs.Sound.{sound}
use Rattle.steps.specs.Meets.{state_of}
use Rattle.steps.specs.Step.{call_event}
use Rattle.changes.specs.Change.{entry_of, seen_of}
use Rattle.changes.specs.declared.Seen.{Seen}
use Rattle.changes.proofs.Steps.{Gives, Regular, regular_lane}
use Rattle.turn_calls.proofs.Steps.{free_step, receive_step_lem, take_step_lem, want_step_lem}
use Rattle.turn_calls.proofs.Regular.{free_regular, receive_regular, take_regular, want_regular}
use Rattle.record_calls.proofs.Steps.{look_step, put_step, read_step_lem, write_step_lem}
use Rattle.record_calls.proofs.Regular.{look_regular, put_regular, read_regular, write_regular}
use Rattle.scopes.specs.declared.LaneCall.{LaneCall}
use Rattle.scopes.specs.Scope.{lane_event}
use Rattle.lane_calls.specs.Decided.{book_decided, decided_change, decided_at}

module _ (l : Line) (book : List ℕ) (lanes_fit : l.lanes ≤ most_lanes) (ok : sound l (length book) ≡ true) where
  -- the step of a call of lane i
  abbrev pub Decides : LaneCall → ℕ → Type 0
  Decides call i =
      Gives l (book_decided call book) (entry_of i) (call_event (state_of l book) (lane_event i call)) (decided_change (seen_of l (entry_of i)) i l.view l.flag book call)

  pub decided_step : (call : LaneCall) (i : ℕ) → Decides call i
  unfolding decided_change decided_at book_decided
  decided_step (LaneCall.Want purpose) i = record { is = want_step_lem l book lanes_fit ok i purpose }
  decided_step LaneCall.Receive i = record { is = receive_step_lem l book lanes_fit ok i }
  decided_step (LaneCall.Take c) i = record { is = take_step_lem l book lanes_fit ok i c }
  decided_step (LaneCall.Write content) i = record { is = write_step_lem l book lanes_fit ok i content }
  decided_step LaneCall.Read i = record { is = read_step_lem l book lanes_fit ok i }
  decided_step (LaneCall.Put k content) i = record { is = put_step l book lanes_fit ok i content k }
  decided_step (LaneCall.Look k) i = record { is = look_step l book lanes_fit ok i k }
  decided_step LaneCall.Free i = record { is = free_step l book lanes_fit ok i }

regular_at : (s : Seen) → s.lanes ≤ most_lanes → (i : ℕ) (v : View) (flags book : List ℕ) (call : LaneCall) → Regular s (decided_at s i v flags book call)
unfolding decided_at
regular_at s lanes_fit i v flags book (LaneCall.Want purpose) = want_regular s lanes_fit i flags purpose
regular_at s lanes_fit i v flags book LaneCall.Receive = receive_regular s lanes_fit i
regular_at s lanes_fit i v flags book (LaneCall.Take c) = take_regular s lanes_fit i v flags c
regular_at s lanes_fit i v flags book (LaneCall.Write content) = write_regular s v
regular_at s lanes_fit i v flags book LaneCall.Read = read_regular s v book
regular_at s lanes_fit i v flags book (LaneCall.Put k content) = put_regular s v k
regular_at s lanes_fit i v flags book (LaneCall.Look k) = look_regular s v book k
regular_at s lanes_fit i v flags book LaneCall.Free = free_regular s lanes_fit i flags

pub decided_regular : (s : Seen) → s.lanes ≤ most_lanes → (i : ℕ) (v : View) (flags book : List ℕ) (call : LaneCall) → Regular s (decided_change s i v flags book call)
unfolding decided_change
decided_regular s lanes_fit i v flags book call = regular_lane s i (regular_at s lanes_fit i v flags book call)
