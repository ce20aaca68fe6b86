-- A lane's call of a sheet: what it changes by the view's table, and what its function leaves. Tied to `decided_at` by sheet_calls/Tables: table_decided_lem.
use Rattle.std.specs.Prelude.{None, Result, Ok, Err, ℕ, ◌+◌, ◌-◌, ◌≤◌, ◌≡◌, Bool, true, false, cond, not, List, [], ◌∷◌, eqb, length}
use Rattle.lists.specs.Lists.{bit}
use Rattle.limits.specs.Limits.{most_lanes, most_pointer}
use Rattle.view.specs.View.{place}
use Rattle.view.specs.declared.Place.{Place}
use Rattle.tiling.specs.Tiling.{Shows, table_fits, table_position}
use Rattle.tiling.specs.declared.Tiling.{Tiling}
use Rattle.line.specs.Line.{place_in}
use Rattle.line.specs.declared.Phase.{Phase}
use Rattle.lane_tests.specs.Rules.{not_idle}
use Rattle.lane_tests.specs.declared.tallies.LaneCounts.{LaneCounts}
use Rattle.event.specs.Event.{event_of}
use Rattle.event.specs.Refusal.{number_of}
use Rattle.event.specs.declared.Refusal.{Refusal}
use Rattle.decode_fields.specs.Fields.{fields_at, total, values}
use Rattle.steps.specs.Answer.{said_by}
use Rattle.steps.specs.declared.Answer.{Answer}
use Rattle.changes.specs.Change.{Counted, counts_after, lane_tested, missing_lane, refused_change}
use Rattle.changes.specs.declared.Change.{Change}
use Rattle.changes.specs.declared.Seen.{Seen}
use Rattle.turn_calls.specs.Turns.{free_change, receive_change, taken_from, want_change}
use Rattle.record_calls.specs.Records.{look_at, put_at, read_by, writable, written_by}
use Rattle.scopes.specs.Scope.{lane_event}
use Rattle.scopes.specs.declared.LaneCall.{LaneCall}
use Rattle.lane_calls.specs.Decided.{book_decided}
use Rattle.ordered_calls.specs.Settled.{admitted, is_accepted}
use Rattle.ordered_calls.specs.declared.Entered.{Entered}
use Rattle.call_head.specs.Head.{lane_kind, rest_of}
use Rattle.call_head.specs.declared.Head.{Head}
use Rattle.answer_text.specs.Printing.{most_values}
use Rattle.kind_text.specs.Put.{Put}
use Rattle.sheet_calls.specs.declared.Called.{Called}

-- ---- what a call gives
abbrev pub is_refusal : Answer → Bool
is_refusal a = not (said_by a).accepted

-- of a call that makes change c, with these counts after it, its line up to `end` and the next event at `next`
abbrev pub called_with : LaneCounts → Change → ℕ → ℕ → Called
called_with counts c end next =
    record { change = c; counts = counts; end = end; next = next; refused = is_refusal c.answer; starts = false }

-- the counts with another number of lanes that are not idle
abbrev pub with_active : LaneCounts → ℕ → LaneCounts
with_active counts active = record { active = active; gathered = counts.gathered; total = counts.total }

-- the counts once a lane that was not idle makes change c; of a refusal they stay
abbrev pub active_after : LaneCounts → Change → LaneCounts
active_after counts c = cond (is_refusal c.answer) counts (with_active counts (counts.active - 1 + bit (not_idle c.phase)))

-- a refusal with this number, and its line
pub record RefusedBy (s : Seen) (number next : ℕ) (out : List ℕ) (at : ℕ) (r : Called) (out-left : List ℕ) : Type 0 where
  pub change : r.change ≡ refused_change s number
  pub past : r.next ≡ next
  pub told : r.refused ≡ true
  pub starts : r.starts ≡ false
  pub put : Put (Answer.Refused number) out at out-left r.end

-- ---- the changes of 02 to 09 past the tests of the lane, with places taken to positions by the view's table
unfoldable pub table_decided : Seen → ℕ → Tiling → List ℕ → List ℕ → List ℕ → LaneCall → Change
table_decided s i t records flags book (LaneCall.Want purpose) = want_change s flags i purpose
table_decided s i t records flags book LaneCall.Receive = receive_change s
table_decided s i t records flags book (LaneCall.Take c) = taken_from s (table_fits t records s.capacity (place_in s.phase) c) flags i c s.phase
table_decided s i t records flags book (LaneCall.Write content) = written_by s (table_position t records (place_in s.phase)) s.phase
table_decided s i t records flags book LaneCall.Read = read_by s (table_position t records (place_in s.phase)) book s.phase
table_decided s i t records flags book (LaneCall.Put k content) = put_at s (table_position t records k)
table_decided s i t records flags book (LaneCall.Look k) = look_at s (table_position t records k) book
table_decided s i t records flags book LaneCall.Free = free_change s flags i

-- ---- what the function of a kind leaves: the fields past the lane, from `to` on, make a call, which changes what `decision` says; the counts, the book, and the line of the
-- answer past its number, from `at` on
pub record RanBy (decision : LaneCall → Change) (kind : ℕ) (sheet : List ℕ) (to : ℕ) (s : Seen) (counts : LaneCounts) (lane : ℕ) (book out : List ℕ) (at : ℕ) (r : Called) (book_left out-left : List ℕ) : Type 0 where
  pub call : LaneCall
  pub rest : List ℕ
  pub fields : fields_at (rest_of kind) sheet to ≡ values rest r.next
  pub event : event_of kind (lane ∷ rest) ≡ lane_event lane call
  pub change : r.change ≡ decision call
  pub refused : r.refused ≡ is_refusal r.change.answer
  pub counted : r.refused ≡ false → r.counts ≡ counts_after counts s r.change
  pub starts : r.starts ≡ false
  pub puts : book_left ≡ book_decided call book r.change.answer
  pub text : Put r.change.answer out at out-left r.end

-- past the tests of the lane
abbrev pub RanAt : ℕ → List ℕ → ℕ → Seen → LaneCounts → ℕ → Tiling → List ℕ → List ℕ → List ℕ → List ℕ → ℕ → Called → List ℕ → List ℕ → Type 0
RanAt kind sheet to s counts lane t records flags book out at r book_left out-left =
    RanBy (table_decided s lane t records flags book) kind sheet to s counts lane book out at r book_left out-left

-- with them
abbrev pub Ran : ℕ → List ℕ → ℕ → Seen → LaneCounts → ℕ → Tiling → List ℕ → List ℕ → List ℕ → List ℕ → ℕ → Called → List ℕ → List ℕ → Type 0
Ran kind sheet to s counts lane t records flags book out at r book_left out-left =
    RanBy (λ call. lane_tested s lane (table_decided s lane t records flags book call)) kind sheet to s counts lane book out at r book_left out-left

-- by kind, each by what it looks at
abbrev pub RanWant : Seen → LaneCounts → ℕ → List ℕ → List ℕ → ℕ → List ℕ → ℕ → Called → List ℕ → Type 0
RanWant s counts lane flags sheet to out at r out-left = (t : Tiling) (records book : List ℕ) → RanAt 2 sheet to s counts lane t records flags book out at r book out-left

abbrev pub RanReceive : Seen → LaneCounts → ℕ → List ℕ → ℕ → Called → List ℕ → Type 0
RanReceive s counts to out at r out-left =
    (lane : ℕ) (t : Tiling) (records flags book sheet : List ℕ) → to ≤ length sheet → RanAt 3 sheet to s counts lane t records flags book out at r book out-left

abbrev pub RanTake : Seen → LaneCounts → ℕ → Tiling → List ℕ → List ℕ → List ℕ → ℕ → List ℕ → ℕ → Called → List ℕ → Type 0
RanTake s counts lane t records flags sheet to out at r out-left = (book : List ℕ) → RanAt 4 sheet to s counts lane t records flags book out at r book out-left

abbrev pub RanWrite : Seen → LaneCounts → Tiling → List ℕ → List ℕ → List ℕ → ℕ → List ℕ → ℕ → Called → List ℕ → List ℕ → Type 0
RanWrite s counts t records book sheet to out at r book_left out-left = (lane : ℕ) (flags : List ℕ) → RanAt 5 sheet to s counts lane t records flags book out at r book_left out-left

abbrev pub RanRead : Seen → LaneCounts → Tiling → List ℕ → List ℕ → ℕ → List ℕ → ℕ → Called → List ℕ → Type 0
RanRead s counts t records book to out at r out-left =
    (lane : ℕ) (flags sheet : List ℕ) → to ≤ length sheet → RanAt 6 sheet to s counts lane t records flags book out at r book out-left

abbrev pub RanPut : Seen → LaneCounts → Tiling → List ℕ → List ℕ → List ℕ → ℕ → List ℕ → ℕ → Called → List ℕ → List ℕ → Type 0
RanPut s counts t records book sheet to out at r book_left out-left = (lane : ℕ) (flags : List ℕ) → RanAt 7 sheet to s counts lane t records flags book out at r book_left out-left

abbrev pub RanLook : Seen → LaneCounts → Tiling → List ℕ → List ℕ → List ℕ → ℕ → List ℕ → ℕ → Called → List ℕ → Type 0
RanLook s counts t records book sheet to out at r out-left = (lane : ℕ) (flags : List ℕ) → RanAt 8 sheet to s counts lane t records flags book out at r book out-left

abbrev pub RanFree : Seen → LaneCounts → ℕ → List ℕ → ℕ → List ℕ → ℕ → Called → List ℕ → Type 0
RanFree s counts lane flags to out at r out-left =
    (t : Tiling) (records book sheet : List ℕ) → to ≤ length sheet → RanAt 9 sheet to s counts lane t records flags book out at r book out-left

-- ---- 0A: what an enter with c records comes to, by the counts and the view's table
abbrev pub table_entered : Seen → LaneCounts → Tiling → List ℕ → ℕ → Result Entered Refusal
table_entered s counts t records c =
    admitted s.phase (eqb counts.active counts.gathered) (table_fits t records s.capacity s.pointer (counts.total + c)) (eqb (counts.gathered + 1) s.lanes)

-- the lane is gathered with c records; pointer p after it
abbrev pub gathered_change : Seen → ℕ → Answer → Place → Change
gathered_change s c a p = record { answer = a; phase = Phase.Gathered c; flag = s.flag; pointer = p; size = s.size; wakes = None }

-- what is changed of the lane itself; all lanes start where the ordered call is complete
abbrev pub enter_change : Seen → ℕ → ℕ → Result Entered Refusal → Change
enter_change s c total (Err k) = refused_change s (number_of k)
enter_change s c total (Ok Entered.Gathered) = gathered_change s c Answer.Gathered s.pointer
enter_change s c total (Ok Entered.Complete) = gathered_change s c (Answer.Ordered s.pointer total) (place (s.pointer.0 + total))

abbrev pub is_complete : Result Entered Refusal → Bool
is_complete (Err k) = false
is_complete (Ok Entered.Gathered) = false
is_complete (Ok Entered.Complete) = true

-- one lane more is gathered
abbrev pub counts_entered : LaneCounts → ℕ → LaneCounts
counts_entered counts c = record { active = counts.active + 1; gathered = counts.gathered + 1; total = counts.total + c }

-- the pointer after an enter that is accepted is in its range
abbrev pub Reaches : Seen → ℕ → Result Entered Refusal → Type 0
Reaches s total entered = is_accepted entered ≡ true → s.pointer.0 + total ≤ most_pointer

abbrev pub InReach : Seen → LaneCounts → Tiling → List ℕ → Type 0
InReach s counts t records = (c : ℕ) → Reaches s (counts.total + c) (table_entered s counts t records c)

-- what an enter gives that comes to `entered`
abbrev pub entered_with : Seen → LaneCounts → ℕ → Result Entered Refusal → ℕ → ℕ → Called
entered_with s counts c entered end next =
    record {
      change = enter_change s c (counts.total + c) entered;
      counts = counts_entered counts c;
      end = end;
      next = next;
      refused = is_refusal (enter_change s c (counts.total + c) entered).answer;
      starts = is_complete entered;
    }

pub record RanEnter (sheet : List ℕ) (to : ℕ) (s : Seen) (counts : LaneCounts) (t : Tiling) (records out : List ℕ) (at : ℕ) (r : Called) (out-left : List ℕ) : Type 0 where
  pub count : ℕ
  pub fields : fields_at (rest_of 10) sheet to ≡ values (count ∷ []) r.next
  pub is : r ≡ entered_with s counts count (table_entered s counts t records count) r.end r.next
  pub text : Put r.change.answer out at out-left r.end

-- ---- a call of a lane by its kind: 4 and 8 come first, whatever it is
abbrev pub RanLane : Head → List ℕ → Seen → LaneCounts → Tiling → List ℕ → List ℕ → List ℕ → List ℕ → ℕ → Called → List ℕ → List ℕ → Type 0
RanLane h sheet s counts t records flags book out at r book_left out-left =
    (h.kind ≡ 10 → ⊥) → Ran h.kind sheet h.to s counts h.lane t records flags book out at r book_left out-left

pub record RanEntered (h : Head) (sheet : List ℕ) (s : Seen) (counts : LaneCounts) (t : Tiling) (records book out : List ℕ) (at : ℕ) (r : Called) (book_left out-left : List ℕ) : Type 0 where
  pub missing : (missing_lane s.lanes h.lane ≡ 0 → ⊥) → RefusedBy s (missing_lane s.lanes h.lane) (h.to + 2) out at r out-left
  pub entered : missing_lane s.lanes h.lane ≡ 0 → RanEnter sheet h.to s counts t records out at r out-left
  pub kept : book_left ≡ book

pub record RanCall (h : Head) (sheet : List ℕ) (s : Seen) (counts : LaneCounts) (t : Tiling) (records flags book out : List ℕ) (at : ℕ) (r : Called) (book_left out-left : List ℕ) : Type 0 where
  pub lane_call : RanLane h sheet s counts t records flags book out at r book_left out-left
  pub enter_call : h.kind ≡ 10 → RanEntered h sheet s counts t records book out at r book_left out-left

-- ---- what a call needs: of the lane's state, with a buffer of n bytes for the book; and of room in the sheet and the text
pub record Ready (s : Seen) (counts : LaneCounts) (t : Tiling) (records : List ℕ) (n : ℕ) : Type 0 where
  pub counted : Counted counts s.phase
  pub shows : Shows t
  pub reach : (place_in s.phase).0 ≤ most_pointer
  pub sized : s.size ≤ n
  pub held : s.capacity ≤ n
  pub writer : writable s (table_position t records (place_in s.phase)) ≡ true
  pub in_reach : InReach s counts t records
  pub total : counts.total ≤ most_pointer
  pub gathered : counts.gathered ≤ most_lanes

pub record Room (h : Head) (sheet out : List ℕ) (at : ℕ) : Type 0 where
  pub kind : lane_kind h.kind ≡ true
  pub fields : h.to + total (rest_of h.kind) ≤ length sheet
  pub text : at + most_values ≤ length out
