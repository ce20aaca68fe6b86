-- The parts of a run: where it stands, and what a part of it has added. Tied to `run_on` by lanes_run/Going: goes_on, joined.
use Rattle.std.specs.Prelude.{Option, Some, None, ℕ, ◌-◌, ◌*◌, ◌≤◌, Bool, true, cond, not, List, ◌++◌, ◌≡◌, eqb, get_or, length, set}
use Rattle.limits.specs.Limits.{most_pointer, most_sheet}
use Rattle.view.specs.declared.Place.{Place}
use Rattle.line.specs.Line.{Shaped, idle_lane, lane}
use Rattle.line.specs.Sound.{sound}
use Rattle.line.specs.declared.Lane.{Lane}
use Rattle.line.specs.declared.Line.{Line}
use Rattle.lane_tests.specs.Rules.{counts_of}
use Rattle.lane_tests.specs.declared.tallies.LaneCounts.{LaneCounts}
use Rattle.waitlist.specs.NextLane.{next_lane}
use Rattle.event.specs.ReadWrite.{event_read, read_at}
use Rattle.event.specs.Refusal.{number_of}
use Rattle.event.specs.declared.Cursor.{Cursor}
use Rattle.event.specs.declared.Event.{Event}
use Rattle.event.specs.declared.Refusal.{Refusal}
use Rattle.steps.specs.Effects.{started, woken}
use Rattle.steps.specs.Meets.{state_of}
use Rattle.steps.specs.State.{State}
use Rattle.changes.specs.Change.{entry_of}
use Rattle.changes.specs.declared.Change.{Change}
use Rattle.changes.specs.declared.Seen.{Seen}
use Rattle.scopes.specs.Scope.{scope_of}
use Rattle.scopes.specs.declared.LineCall.{LineCall}
use Rattle.scopes.specs.declared.Scope.{Scope}
use Rattle.ordered_calls.specs.Settled.{IdlePast}
use Rattle.line_calls.specs.Refusal.{line_refusal}
use Rattle.call_head.specs.Head.{NoLane}
use Rattle.call_head.specs.declared.Head.{Head}
use Rattle.sheet_calls.specs.declared.Called.{Called}
use Rattle.sheet_calls.specs.declared.Caller.{Caller}
use Rattle.trace.specs.SheetCalls.{calls_from}
use Rattle.trace.specs.Trace.{Entry, entries}
use Rattle.wait_counts.specs.Counting.{Counting, SameTotals}
use Rattle.wait_counts.specs.Counts.{releases_in}
use Rattle.printout.specs.Print.{answer_lines, end_line}
use Rattle.printout.specs.Run.{Ran, run_on}
use Rattle.number_text.specs.Stored.{Stored}
use Rattle.answer_text.specs.Printing.{most_line}
use Rattle.run_text.specs.RunText.{most_text}
use Rattle.lanes_run.specs.declared.Standing.{Standing}
use Rattle.lanes_run.specs.declared.Started.{Started}

-- ---- the line by what lanes' calls change of it
abbrev pub line_now : Line → ℕ → Place → List Lane → List ℕ → Line
line_now l size pointer lanes flags =
    record { lanes = l.lanes; capacity = l.capacity; size = size; pointer = pointer; view = l.view; lane = lanes; flag = flags }

abbrev pub seen_now : ℕ → ℕ → ℕ → Place → LaneCounts → Lane → ℕ → Seen
seen_now lanes capacity size pointer counts own flag =
    record { lanes = lanes; capacity = capacity; size = size; pointer = pointer; gathering = not (eqb counts.gathered 0); phase = own.phase; flag = flag }

-- a call of a lane in it
abbrev pub caller_now : Head → Line → ℕ → Place → LaneCounts → Lane → ℕ → Caller
caller_now h l size pointer counts own flag = record { head = h; seen = seen_now l.lanes l.capacity size pointer counts own flag; counts = counts }

-- the lanes of an ordered call that has started from the pointer, and their counts
abbrev pub started_now : ℕ → List Lane → Started
started_now pointer lanes = record { lane = started pointer lanes; counts = counts_of (started pointer lanes) }

-- ---- what an accepted call of the lane at an entry leaves of the lanes
-- its own phase
abbrev pub own_changed : List Lane → ℕ → Change → List Lane
own_changed lanes i c = set lanes i (lane c.phase)

-- then the lane that it wakes, woken with a pointer
abbrev pub woken_at : List Lane → ℕ → Place → List Lane
woken_at lanes w p = set lanes w (lane (woken p (get_or lanes w idle_lane).phase))

-- or, where it starts an ordered call, all of them from the pointer before it
abbrev pub lanes_left : Option ℕ → Bool → Place → Place → List Lane → List Lane
lanes_left (Some w) starts before p lanes = woken_at lanes (entry_of w) p
lanes_left None starts before p lanes = cond starts (started before.0 lanes) lanes

-- and the counts, which are those that it gives, or those of the lanes that have started
abbrev pub counts_left : Option ℕ → Bool → Place → LaneCounts → List Lane → LaneCounts
counts_left (Some w) starts before counts lanes = counts
counts_left None starts before counts lanes = cond starts (counts_of (started before.0 lanes)) counts

pub record Stores (lanes : List Lane) (flags : List ℕ) (i : ℕ) (r : Called) (before : Place) (lanes_after : List Lane) (flags_after : List ℕ) (counts : LaneCounts) : Type 0 where
  pub lane : lanes_after ≡ lanes_left r.change.wakes r.starts before r.change.pointer (own_changed lanes i r.change)
  pub flag : flags_after ≡ set flags i r.change.flag
  pub count : counts ≡ counts_left r.change.wakes r.starts before r.counts (own_changed lanes i r.change)

-- lanes that may start: from a pointer in its range, and past the first n of them all idle
abbrev pub MayStart : List Lane → ℕ → Called → ℕ → Place → Type 0
MayStart lanes i r n before = r.change.wakes ≡ None → r.starts ≡ true → (before.0 ≤ most_pointer) × IdlePast n (own_changed lanes i r.change)

-- ---- a part of a run
-- the text of the answers, numbered from k on, and of what a run leaves
abbrev pub text_of : ℕ → Ran → List ℕ
text_of k r = answer_lines k r.answers ++ end_line r.after

-- a run that was in state x₀ at index `from` of the sheet, past `first` events and with `so_far` bytes of text, has come to `line` and `book`, at index `at` and past
-- `number` events; the text since then stands in `out` up to `len`
pub record Going (sheet : List ℕ) (x₀ : State) (out₀ : List ℕ) (from so_far first : ℕ) (line : Line) (book out : List ℕ) (at len number : ℕ) : Type 0 where
  pub shaped : Shaped line
  pub is_sound : sound line (length book) ≡ true
  pub inside : at ≤ length sheet
  pub numbered : number ≤ at
  pub short : len ≤ most_line * at
  pub text : List ℕ
  pub stored : Stored text out₀ so_far out len
  pub rest : text ++ text_of number (run_on (length sheet - number) (state_of line book) sheet at) ≡ text_of first (run_on (length sheet - first) x₀ sheet from)
  pub after : (run_on (length sheet - number) (state_of line book) sheet at).after ≡ (run_on (length sheet - first) x₀ sheet from).after
  pub book_length : length book ≡ length x₀.book
  pub out_length : length out ≡ length out₀

-- the calls that are left of the sheet at an index, past `number` events, with their answers
abbrev pub entries_left : State → List ℕ → ℕ → ℕ → List Entry
entries_left x sheet at number = entries next_lane x (calls_from (length sheet - number) sheet at)

-- the same run, with its counts of waiting: with what is left of the sheet they count what they did at the start
pub record Counted (sheet : List ℕ) (x₀ : State) (waits₀ : List ℕ) (from first : ℕ) (line : Line) (book waits : List ℕ) (at number : ℕ) : Type 0 where
  pub counting : Counting (state_of line book) waits
  pub few : releases_in waits ≤ number
  pub totals : SameTotals waits (entries_left (state_of line book) sheet at number) waits₀ (entries_left x₀ sheet from first)

-- the run and its counts
pub record Advanced (sheet : List ℕ) (x₀ : State) (out₀ waits₀ : List ℕ) (from so_far first : ℕ) (line : Line) (book out waits : List ℕ) (at len number : ℕ) : Type 0 where
  pub going : Going sheet x₀ out₀ from so_far first line book out at len number
  pub counted : Counted sheet x₀ waits₀ from first line book waits at number

-- what a part needs where it begins: a sound line, an index of a sheet that is not too long, room for the text, and counts that fit
pub record Begun (s : Standing) (book sheet out waits : List ℕ) : Type 0 where
  pub shaped : Shaped s.line
  pub is_sound : sound s.line (length book) ≡ true
  pub inside : s.at ≤ length sheet
  pub numbered : s.number ≤ s.at
  pub short : s.length ≤ most_line * s.at
  pub room : most_text (length sheet) ≤ length out
  pub counting : Counting (state_of s.line book) waits
  pub few : releases_in waits ≤ s.number
  pub bounded : length sheet ≤ most_sheet

-- what it leaves: the run has gone on, and no lane calls at the index where it stops
pub record Went (s : Standing) (book sheet out waits : List ℕ) (r : Standing) (book_left out-left waits-left : List ℕ) : Type 0 where
  pub part : Advanced sheet (state_of s.line book) out waits s.at s.length s.number r.line book_left out-left waits-left r.at r.length r.number
  pub stops : NoLane sheet r.at

-- ---- a call on the whole line that is refused
abbrev pub refusal_now : LineCall → Line → ℕ → Place → LaneCounts → ℕ → ℕ
refusal_now call l size pointer counts buffer = line_refusal call l.lanes l.capacity size pointer l.view (eqb counts.active 0) buffer

pub record LineRefusal (l : Line) (size : ℕ) (pointer : Place) (counts : LaneCounts) (buffer : ℕ) (sheet : List ℕ) (at : ℕ) (reason : Refusal) (past : ℕ) : Type 0 where
  pub event : Event
  pub next : Cursor
  pub call : LineCall
  pub read : read_at sheet at ≡ event_read event next
  pub scope : scope_of event ≡ Scope.Line call
  pub number : number_of reason ≡ refusal_now call l size pointer counts buffer
  pub further : past ≡ next.at

-- nothing is said where there is no refusal: then the part ends, and the call is made on the line by value
abbrev pub RefusedLine : Line → ℕ → Place → LaneCounts → ℕ → List ℕ → ℕ → Option (Refusal × ℕ) → Type 0
RefusedLine l size pointer counts buffer sheet at r = (reason : Refusal) (past : ℕ) → r ≡ Some (reason, past) → LineRefusal l size pointer counts buffer sheet at reason past
