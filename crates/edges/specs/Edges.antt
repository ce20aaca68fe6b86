-- Document 01, "Edges (* to be proved)", as one table of what the steps answer and leave.
use Rattle.std.specs.Prelude.{Option, Some, None, ℕ, ◌+◌, ◌≤◌, ◌≡◌, ◌≢◌, Bool, true, List, [], ◌∷◌, ◌++◌, map, get_or, length, replicate, take, ℤ, pos, neg_ℤ}
use Rattle.lists.specs.Lists.{sum_of}
use Rattle.view.specs.View.{block, place, plain_view, position}
use Rattle.view.specs.declared.Place.{Place}
use Rattle.line.specs.declared.Purpose.{Purpose}
use Rattle.line.specs.declared.Phase.{Phase}
use Rattle.line.specs.Line.{is_waiting, phase_at, Shaped, unopened}
use Rattle.line.specs.Sound.{sound}
use Rattle.view.specs.declared.Block.{Block}
use Rattle.event.specs.Event.{given}
use Rattle.event.specs.declared.Event.{Event}
use Rattle.steps.specs.State.{Result, State}
use Rattle.steps.specs.Effects.{purpose_of, writing}
use Rattle.steps.specs.Refusals.{field, lane_of, names_lane}
use Rattle.steps.specs.Step.{after_calls, call_bytes, call_event, calls}
use Rattle.steps.specs.declared.Answer.{Answer}
use Rattle.printout.specs.Print.{linebook}
use Rattle.printout.specs.Text.{ascii}

-- ---- answers, and the states that lists of events lead to
abbrev pub answer_to : State → Event → Answer
answer_to x e = (call_event x e).answer

abbrev pub answers_to : State → List Event → List Answer
answers_to x events = map (λ (r : Result). r.answer) (calls x (map given events))

abbrev pub after_events : State → List Event → State
after_events x events = after_calls x (map given events)

-- what the events leave of an unopened line and a book of n bytes
abbrev pub reached : ℕ → List Event → State
reached n events = after_events (record { line = unopened; book = replicate n 0 }) events

abbrev pub is_sound : State → Bool
is_sound x = sound x.line (length x.book)

abbrev pub phases_of : State → List ℕ → List Phase
phases_of x lanes = map (phase_at x.line) lanes

abbrev pub minus : ℕ → ℤ
minus n = neg_ℤ (pos n)

-- ---- the lines of the edges, each with the events that lead to it
-- a sound line of one lane, whatever else it is
pub record Alone (x : State) : Type 0 where
  pub shaped : Shaped x.line
  pub sound : is_sound x ≡ true
  pub one : x.line.lanes ≡ 1

-- a sound line of n lanes on which lane i holds, whatever else it is
pub record Holder (x : State) (n i : ℕ) : Type 0 where
  pub shaped : Shaped x.line
  pub sound : is_sound x ≡ true
  pub lanes : x.line.lanes ≡ n
  pub purpose : Purpose
  pub value : Place
  pub holds : phase_at x.line i ≡ Phase.Holding purpose value

abbrev pub Waits : State → ℕ → Type 0
Waits x i = is_waiting (phase_at x.line i) ≡ true

-- a release by lane i, by an 04 or by an 09, wakes lane w
pub record Release (x : State) (i w : ℕ) : Type 0 where
  pub take : (c : ℕ) (start : Place) (count : ℕ) (a : Option ℕ) → answer_to x (Event.Take i c) ≡ Answer.Region start count a → a ≡ Some w
  pub free : (a : Option ℕ) → answer_to x (Event.Free i) ≡ Answer.Freed a → a ≡ Some w

-- N = n: its last lane holds for this purpose, 0 and the lane below the last wait
abbrev pub last_by : ℕ → ℕ → ℕ → ℕ → List Event
last_by n last below purpose = Event.Open n 64 ∷ Event.Want last purpose ∷ Event.Want 0 0 ∷ Event.Want below 2 ∷ []

abbrev pub last_holds : ℕ → ℕ → ℕ → ℕ → State
last_holds n last below purpose = reached 64 (last_by n last below purpose)

-- "lane 63 releases, 0 and 62 wait: wakes 0", of a line of n lanes
pub record LastReleases (n last below : ℕ) : Type 0 where
  pub line :
      phases_of (last_holds n last below 0) (0 ∷ below ∷ last ∷ [])
      ≡ Phase.Waiting Purpose.SharedWrite ∷ Phase.Waiting Purpose.WholeBook ∷ Phase.Holding Purpose.SharedWrite (place 0) ∷ []
  pub sound : map (λ (purpose : ℕ). is_sound (last_holds n last below purpose)) (0 ∷ 2 ∷ []) ≡ true ∷ true ∷ []
  pub take : answer_to (last_holds n last below 0) (Event.Take last 1) ≡ Answer.Region (place 0) 1 (Some 0)
  pub free : answer_to (last_holds n last below 2) (Event.Free last) ≡ Answer.Freed (Some 0)
  pub every : (x : State) → Holder x n last → Waits x 0 → Waits x below → Release x last 0

-- N = n: lane 5 holds for this purpose, only 4 waits
abbrev pub lane5_by : ℕ → ℕ → List Event
lane5_by n purpose = Event.Open n 64 ∷ Event.Want 5 purpose ∷ Event.Want 4 1 ∷ []

abbrev pub lane5_holds : ℕ → ℕ → State
lane5_holds n purpose = reached 64 (lane5_by n purpose)

-- "Lane 5 releases, only 4 waits: wakes 4", of a line of n lanes
pub record Lane5Releases (n : ℕ) : Type 0 where
  pub line : phases_of (lane5_holds n 0) (4 ∷ 5 ∷ []) ≡ Phase.Waiting Purpose.SharedRead ∷ Phase.Holding Purpose.SharedWrite (place 0) ∷ []
  pub sound : map (λ (purpose : ℕ). is_sound (lane5_holds n purpose)) (0 ∷ 2 ∷ []) ≡ true ∷ true ∷ []
  pub take : answer_to (lane5_holds n 0) (Event.Take 5 1) ≡ Answer.Region (place 0) 1 (Some 4)
  pub free : answer_to (lane5_holds n 2) (Event.Free 5) ≡ Answer.Freed (Some 4)
  pub every : (x : State) → Holder x n 5 → Waits x 4 → ((j : ℕ) → Waits x j → j ≡ 4) → Release x 5 4

-- displacement 4, extent 5, blocks (1, 2) and (4, 1); lane 0 holds for this purpose
abbrev pub two_blocks : List Block
two_blocks = block 1 2 ∷ block 4 1 ∷ replicate 6 (block 0 0)

abbrev pub viewed_by : ℕ → List Event
viewed_by purpose = Event.Open 1 64 ∷ Event.View 4 5 2 two_blocks ∷ Event.Want 0 purpose ∷ []

abbrev pub viewed : ℕ → State
viewed purpose = reached 64 (viewed_by purpose)

-- plain view, this capacity, pointer 0; lane 0 holds for a shared write
abbrev pub plain_by : ℕ → List Event
plain_by capacity = Event.Open 1 capacity ∷ Event.Want 0 0 ∷ []

abbrev pub plain : ℕ → State
plain capacity = reached capacity (plain_by capacity)

-- pointer 3
abbrev pub pointer3_by : List Event
pointer3_by = Event.Open 1 64 ∷ Event.Seek 0 (pos 3) ∷ []

abbrev pub pointer3 : State
pointer3 = reached 64 pointer3_by

-- size 24: a record was put at place 2
abbrev pub size24_by : List Event
size24_by = Event.Open 1 64 ∷ Event.Want 0 2 ∷ Event.Put 0 (place 2) 7 ∷ Event.Free 0 ∷ []

abbrev pub size24 : State
size24 = reached 64 size24_by

-- the same book in the view of the edge above
abbrev pub viewed24_by : List Event
viewed24_by = size24_by ++ Event.View 4 5 2 two_blocks ∷ []

abbrev pub viewed24 : State
viewed24 = reached 64 viewed24_by

-- plain view, capacity 120, N = 3, pointer 10
abbrev pub pointer10_by : List Event
pointer10_by = Event.Open 3 120 ∷ Event.Seek 0 (pos 10) ∷ []

abbrev pub pointer10 : State
pointer10 = reached 120 pointer10_by

-- lanes 0, 1, 2 enter 2, 0, 3
abbrev pub enter0 : Event
enter0 = Event.Enter 0 2

abbrev pub enter1 : Event
enter1 = Event.Enter 1 0

abbrev pub enter2 : Event
enter2 = Event.Enter 2 3

-- the counts of lanes 0, 1, 2
abbrev pub counts : List ℕ
counts = map (field 1) (enter0 ∷ enter1 ∷ enter2 ∷ [])

-- "pointer + the counts of lanes below r"
abbrev pub start_of : ℕ → ℕ
start_of r = pointer10.line.pointer.0 + sum_of (λ (n : ℕ). n) (take r counts)

-- a writer of 2 from place 10, an idle lane, a writer of 3 from place 12
abbrev pub writers : List Phase
writers = Phase.BusyWriting 2 (place 10) ∷ Phase.Idle ∷ Phase.BusyWriting 3 (place 12) ∷ []

-- the three entries in one order: the third completes the call
pub record EnteredInOrder (a b c : Event) : Type 0 where
  pub answers : answers_to pointer10 (a ∷ b ∷ c ∷ []) ≡ Answer.Gathered ∷ Answer.Gathered ∷ Answer.Ordered (place 10) 5 ∷ []
  pub lanes : phases_of (after_events pointer10 (a ∷ b ∷ c ∷ [])) (0 ∷ 1 ∷ 2 ∷ []) ≡ writers
  pub pointer : (after_events pointer10 (a ∷ b ∷ c ∷ [])).line.pointer ≡ place 15
  pub sound : is_sound (after_events pointer10 (a ∷ b ∷ c ∷ [])) ≡ true

-- ---- the starred edges
pub record StarredEdges : Type 0 where
  -- "N = 1: want answers holds, never waits"
  pub alone_never_waits : (x : State) → Alone x → (i purpose : ℕ) → answer_to x (Event.Want i purpose) ≢ Answer.Waits
  pub alone_answers_holds : (x : State) → Alone x → phase_at x.line 0 ≡ Phase.Idle → (purpose : ℕ) → purpose ≤ 2
      → answer_to x (Event.Want 0 purpose) ≡ Answer.Holds x.line.pointer
  pub alone_then_holds : (x : State) → Alone x → phase_at x.line 0 ≡ Phase.Idle → (purpose : ℕ) → purpose ≤ 2
      → phase_at (call_event x (Event.Want 0 purpose)).after.line 0 ≡ Phase.Holding (purpose_of purpose) x.line.pointer
  -- "N = 64, lane 63 releases, 0 and 62 wait: wakes 0", and its like at N = 128 (Wish 2)
  pub last_of_64 : LastReleases 64 63 62
  pub last_of_128 : LastReleases 128 127 126
  -- "Lane 5 releases, only 4 waits: wakes 4", of 64 lanes and of 128
  pub lane5_of_64 : Lane5Releases 64
  pub lane5_of_128 : Lane5Releases 128
  -- "Displacement 4, extent 5, blocks (1, 2) and (4, 1): places 0, 1, 2, 3 lie at 12, 20, 36, 52"
  pub view_puts : (content : ℕ)
      → map (λ (k : ℕ). answer_to (viewed 2) (Event.Put 0 (place k) content)) (0 ∷ 1 ∷ 2 ∷ 3 ∷ [])
      ≡ Answer.Wrote (position 12) ∷ Answer.Wrote (position 20) ∷ Answer.Wrote (position 36) ∷ Answer.Wrote (position 52) ∷ []
  pub view_writes : (content : ℕ)
      → answers_to (viewed 0) (Event.Take 0 4 ∷ replicate 4 (Event.Write 0 content))
      ≡ Answer.Region (place 0) 4 None
      ∷ Answer.Wrote (position 12)
      ∷ Answer.Wrote (position 20)
      ∷ Answer.Wrote (position 36)
      ∷ Answer.Wrote (position 52)
      ∷ []
  -- "Plain view, capacity 64, pointer 0: 8 records fit, 9 give 16; capacity 63: 7 fit"
  pub fit_64 : answer_to (plain 64) (Event.Take 0 8) ≡ Answer.Region (place 0) 8 None
  pub overfill_64 : answer_to (plain 64) (Event.Take 0 9) ≡ Answer.Refused 16
  pub fit_63 : answer_to (plain 63) (Event.Take 0 7) ≡ Answer.Region (place 0) 7 None
  pub overfill_63 : answer_to (plain 63) (Event.Take 0 8) ≡ Answer.Refused 16
  -- "Pointer 3, whence 1: −3 gives 0, −4 gives 15", as events and as bytes
  pub back_3 : answer_to pointer3 (Event.Seek 1 (minus 3)) ≡ Answer.Seek (place 0)
  pub back_4 : answer_to pointer3 (Event.Seek 1 (minus 4)) ≡ Answer.Refused 15
  pub bytes_back_3 : (call_bytes pointer3 0x0C (1 ∷ 0xFF ∷ 0xFF ∷ 0xFF ∷ 0xFD ∷ [])).answer ≡ Answer.Seek (place 0)
  pub bytes_back_4 : (call_bytes pointer3 0x0C (1 ∷ 0xFF ∷ 0xFF ∷ 0xFF ∷ 0xFC ∷ [])).answer ≡ Answer.Refused 15
  -- "Whence 0: 65,536 is taken, 65,537 gives 15"
  pub seek_most : answer_to pointer3 (Event.Seek 0 (pos 65536)) ≡ Answer.Seek (place 65536)
  pub seek_past : answer_to pointer3 (Event.Seek 0 (pos 65537)) ≡ Answer.Refused 15
  -- "Size 24, whence 2, offset 0: pointer 3": in the plain view, "in which 01's edge of size 24 is read from now on" (Wish 4)
  pub view_24 : size24.line.view ≡ plain_view
  pub size_24 : size24.line.size ≡ 24
  pub seek_end : answer_to size24 (Event.Seek 2 (pos 0)) ≡ Answer.Seek (place 3)
  pub pointer_end : (call_event size24 (Event.Seek 2 (pos 0))).after.line.pointer ≡ place 3
  -- "In the view of 01's edge, with size 24, the count is 2, where size / 8 gave 3" (Wish 4); 15 looks at count plus offset
  pub size_viewed : viewed24.line.size ≡ 24
  pub seek_viewed : map (λ (offset : ℤ). answer_to viewed24 (Event.Seek 2 offset)) (pos 0 ∷ minus 2 ∷ minus 3 ∷ pos 65534 ∷ pos 65535 ∷ [])
      ≡ Answer.Seek (place 2) ∷ Answer.Seek (place 0) ∷ Answer.Refused 15 ∷ Answer.Seek (place 65536) ∷ Answer.Refused 15 ∷ []
  -- places 0 and 1 count, by where their records start: that of place 1, at 20, ends past the size, and is none
  pub counted_none : answers_to viewed24 (Event.Want 0 2 ∷ Event.Look 0 (place 0) ∷ Event.Look 0 (place 1) ∷ [])
      ≡ Answer.Holds (place 0) ∷ Answer.Record 0 ∷ Answer.None ∷ []
  -- an append: the record of the place that the seek gives lies past the size, and the end is then one further
  pub append_viewed : (content : ℕ)
      → answers_to viewed24 (Event.Seek 2 (pos 0) ∷ Event.Want 0 0 ∷ Event.Take 0 1 ∷ Event.Write 0 content ∷ Event.Seek 2 (pos 0) ∷ [])
      ≡ Answer.Seek (place 2) ∷ Answer.Holds (place 2) ∷ Answer.Region (place 2) 1 None ∷ Answer.Wrote (position 36) ∷ Answer.Seek (place 3) ∷ []
  -- "Plain view, capacity 120, N = 3, pointer 10, lanes 0, 1, 2 enter 2, 0, 3 in any order: starts 10, 12, 12, pointer 15"
  pub view_10 : pointer10.line.view ≡ plain_view
  pub pointer_10 : pointer10.line.pointer ≡ place 10
  pub order_012 : EnteredInOrder enter0 enter1 enter2
  pub order_021 : EnteredInOrder enter0 enter2 enter1
  pub order_102 : EnteredInOrder enter1 enter0 enter2
  pub order_120 : EnteredInOrder enter1 enter2 enter0
  pub order_201 : EnteredInOrder enter2 enter0 enter1
  pub order_210 : EnteredInOrder enter2 enter1 enter0
  pub starts : map start_of (0 ∷ 1 ∷ 2 ∷ []) ≡ 10 ∷ 12 ∷ 12 ∷ []
  pub from_starts : map (λ (r : ℕ). writing (get_or counts r 0) (place (start_of r))) (0 ∷ 1 ∷ 2 ∷ []) ≡ writers

-- ---- the edges that bear no star
pub record OtherEdges : Type 0 where
  -- "01's edge becomes N = 129" (Wish 2): gives 6
  pub lanes_129 : (x : State) → is_sound x ≡ true → x.line.lanes ≡ 0 → (capacity : ℕ) → answer_to x (Event.Open 129 capacity) ≡ Answer.Refused 6
  -- "The lanes of 01 become 1 to 128" (Wish 2): no number of lanes in that range gets 6, whatever the line
  pub lanes_inside : (x : State) (lanes capacity : ℕ) → 1 ≤ lanes → lanes ≤ 128 → answer_to x (Event.Open lanes capacity) ≢ Answer.Refused 6
  -- "lane N gives 8", for every call that names a lane
  pub lane_N : (x : State) → is_sound x ≡ true → x.line.lanes ≢ 0 → (e : Event) → names_lane e ≡ true → lane_of e ≡ x.line.lanes
      → answer_to x e ≡ Answer.Refused 8
  -- "an empty sheet prints `end 0 0`"
  pub empty_sheet : linebook [] ≡ ascii "end 0 0\n"
