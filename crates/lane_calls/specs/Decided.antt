-- The calls 02 to 09 as changes, and the book that each leaves. Tied to `call_event` by lane_calls/Steps: decided_step.
use Rattle.std.specs.Prelude.{ℕ, List, ◌≡◌}
use Rattle.view.specs.declared.View.{View}
use Rattle.steps.specs.declared.Answer.{Answer}
use Rattle.changes.specs.Change.{lane_tested}
use Rattle.changes.specs.declared.Change.{Change}
use Rattle.changes.specs.declared.Seen.{Seen}
use Rattle.turn_calls.specs.Turns.{free_change, receive_change, take_change, want_change}
use Rattle.record_calls.specs.Records.{book_after, look_change, put_change, read_change, write_change}
use Rattle.scopes.specs.declared.LaneCall.{LaneCall}

-- the change past the tests of the lane
unfoldable pub decided_at : Seen → ℕ → View → List ℕ → List ℕ → LaneCall → Change
decided_at s i v flags book (LaneCall.Want purpose) = want_change s flags i purpose
decided_at s i v flags book LaneCall.Receive = receive_change s
decided_at s i v flags book (LaneCall.Take c) = take_change s v flags i c
decided_at s i v flags book (LaneCall.Write content) = write_change s v
decided_at s i v flags book LaneCall.Read = read_change s v book
decided_at s i v flags book (LaneCall.Put k content) = put_change s v k
decided_at s i v flags book (LaneCall.Look k) = look_change s v book k
decided_at s i v flags book LaneCall.Free = free_change s flags i

-- the change of a call of lane i: 4 and 8 come first, whatever the kind
unfoldable pub decided_change : Seen → ℕ → View → List ℕ → List ℕ → LaneCall → Change
decided_change s i v flags book call = lane_tested s i (decided_at s i v flags book call)

-- the book that a call leaves with this answer: a record that 05 or 07 put stands at its position
unfoldable pub book_decided : LaneCall → List ℕ → Answer → List ℕ
book_decided (LaneCall.Want purpose) book a = book
book_decided LaneCall.Receive book a = book
book_decided (LaneCall.Take c) book a = book
book_decided (LaneCall.Write content) book a = book_after content book a
book_decided LaneCall.Read book a = book
book_decided (LaneCall.Put k content) book a = book_after content book a
book_decided (LaneCall.Look k) book a = book
book_decided LaneCall.Free book a = book

-- what a decision gives: the change, and the bytes that the call leaves with its answer
pub record Decision (change : Change) (call : LaneCall) (book : List ℕ) (result : Change) (bytes : List ℕ) : Type 0 where
  pub is : result ≡ change
  pub book_left : bytes ≡ book_decided call book result.answer
