-- Document 01, "Events": what each call answers and leaves where it is accepted.
use Rattle.std.specs.Prelude.{Option, Some, None, ℕ, zero, suc, ◌+◌, ◌-◌, max, Bool, cond, List, [], ◌∷◌, ◌++◌, drop, replicate, set, take, ℤ, pos, negsuc, ◌+ℤ◌, leb, eqb}
use Rattle.std.proofs.lemmas.List.Edits.{sets}
use Rattle.lists.specs.Lists.{all_pass, count_pass}
use Rattle.view.specs.View.{end_of_book, place, plain_view, position_of, record_end}
use Rattle.view.specs.declared.Place.{Place}
use Rattle.view.specs.declared.View.{View}
use Rattle.line.specs.declared.Purpose.{Purpose}
use Rattle.line.specs.declared.Phase.{Phase}
use Rattle.line.specs.declared.Lane.{Lane}
use Rattle.line.specs.declared.Line.{Line}
use Rattle.limits.specs.Limits.{most_lanes}
use Rattle.line.specs.Line.{count_in, idle_lane, is_gathered, is_reading, is_waiting, is_writing, lane, left_in, on, phase_at, place_in, purpose_in}
use Rattle.line.specs.Sound.{gathered_total}
use Rattle.view.specs.declared.Block.{Block}
use Rattle.event.specs.Event.{block_list}
use Rattle.event.specs.BigEndian.{big_endian, number_of}
use Rattle.event.specs.declared.Event.{Event}
use Rattle.steps.specs.State.{Result, State, leaves, with_flag, with_lanes, with_phase, with_pointer, with_size, with_view}
use Rattle.steps.specs.declared.Answer.{Answer}

-- ---- 01 open: "Zeroes the book's capacity bytes; size and pointer are 0, lanes idle"
abbrev pub opened : ℕ → ℕ → Line
opened lanes capacity =
    record {
      lanes = lanes;
      capacity = capacity;
      size = 0;
      pointer = place 0;
      view = plain_view;
      lane = replicate most_lanes idle_lane;
      flag = replicate most_lanes 0;
    }

abbrev pub open_step : State → ℕ → ℕ → Result
open_step x lanes capacity = leaves (Answer.Open lanes capacity) (opened lanes capacity) (replicate capacity 0 ++ drop capacity x.book)

-- ---- 02 want: "Raises the flag and reads the others. All others 0: holding, with the pointer. Else waiting"
-- "Purposes: 0 shared write, 1 shared read, 2 whole book"; above 2 refusal 9 applies
abbrev pub purpose_of : ℕ → Purpose
purpose_of zero = Purpose.SharedWrite
purpose_of (suc zero) = Purpose.SharedRead
purpose_of (suc (suc k)) = Purpose.WholeBook

-- all flags but lane i's are 0; those past N are 0 on a sound line
abbrev pub others_down : Line → ℕ → Bool
others_down l i = all_pass (eqb 0) (set l.flag i 0)

-- lane i gets its flag up and this phase
abbrev pub raised_as : Line → ℕ → Phase → Line
raised_as l i p = with_phase (with_flag l i 1) i p

abbrev pub want_step : State → ℕ → Purpose → Result
want_step x i p =
    cond (others_down x.line i)
    (leaves (Answer.Holds x.line.pointer) (raised_as x.line i (Phase.Holding p x.line.pointer)) x.book)
    (leaves Answer.Waits (raised_as x.line i (Phase.Waiting p)) x.book)

-- ---- 03 receive: "A woken lane becomes holding"
abbrev pub receive_step : State → ℕ → Phase → Result
receive_step x i p = leaves (Answer.Holds (place_in p)) (with_phase x.line i (Phase.Holding (purpose_in p) (place_in p))) x.book

-- ---- a release, of 04 and 09: the flag drops, and "the next lane is woken with the new pointer"
-- a waiting lane that is woken with a pointer value; another as it is
abbrev pub woken : Place → Phase → Phase
woken v x = cond (is_waiting x) (Phase.Woken (purpose_in x) v) x

abbrev pub wake : Line → Option ℕ → Line
wake l (Some w) = with_phase l w (woken l.pointer (phase_at l w))
wake l None = l

-- the releaser with its flag down and in its next phase, and the pointer set to v
abbrev pub lowered : Line → ℕ → Phase → Place → Line
lowered l i p v = with_pointer (with_phase (with_flag l i 0) i p) v

-- how a release finds the lane to wake, from N, the flags and the releaser: `next_lane`, and in a trial another way
abbrev pub Search : Type 0
Search = ℕ → List ℕ → ℕ → Option ℕ

abbrev pub next_of : Search → Line → ℕ → Option ℕ
next_of search l i = search l.lanes l.flag i

abbrev pub released : Search → Line → ℕ → Line
released search l i = wake l (next_of search l i)

-- ---- 04 take: "Region v to v + count; the pointer becomes v + count .. The lane is busy, or idle if count is 0"
abbrev pub writing : ℕ → Place → Phase
writing left next = cond (eqb left 0) Phase.Idle (Phase.BusyWriting left next)

abbrev pub reading : ℕ → Place → Phase
reading left next = cond (eqb left 0) Phase.Idle (Phase.BusyReading left next)

abbrev pub busy_for : Purpose → ℕ → Place → Phase
busy_for Purpose.SharedWrite left next = writing left next
busy_for Purpose.SharedRead left next = reading left next
busy_for Purpose.WholeBook left next = Phase.Idle

abbrev pub taken : Line → ℕ → ℕ → Phase → Line
taken l i c p = lowered l i (busy_for (purpose_in p) c (place_in p)) (place ((place_in p).0 + c))

abbrev pub take_step : Search → State → ℕ → ℕ → Phase → Result
take_step search x i c p =
    leaves (Answer.Region (place_in p) c (next_of search (taken x.line i c p) i)) (released search (taken x.line i c p) i) x.book

-- ---- 05 write and 07 put: a record put at a place
abbrev pub book_with : State → Place → ℕ → List ℕ
book_with x k content = sets x.book (position_of x.line.view k).0 (big_endian 8 content)

-- "The size is the end of the furthest record written"
abbrev pub grown : Line → Place → Line
grown l k = with_size l (max l.size (record_end l.view k))

-- a busy lane with one record used up: "after its last it is idle"; another as it is
abbrev pub one_less : Phase → Phase
one_less x =
    cond (is_writing x) (writing (left_in x - 1) (place ((place_in x).0 + 1)))
    (cond (is_reading x) (reading (left_in x - 1) (place ((place_in x).0 + 1))) x)

abbrev pub write_step : State → ℕ → ℕ → Phase → Result
write_step x i content p =
    leaves (Answer.Wrote (position_of x.line.view (place_in p))) (with_phase (grown x.line (place_in p)) i (one_less p)) (book_with x (place_in p) content)

abbrev pub put_step : State → Place → ℕ → Result
put_step x k content = leaves (Answer.Wrote (position_of x.line.view k)) (grown x.line k) (book_with x k content)

-- ---- 06 read and 08 look: "its next record, or "none" if that ends past the size"
abbrev pub content_at : State → Place → ℕ
content_at x k = number_of (take 8 (drop (position_of x.line.view k).0 x.book))

abbrev pub record_at : State → Place → Answer
record_at x k = cond (leb (record_end x.line.view k) x.line.size) (Answer.Record (content_at x k)) Answer.None

-- "either uses one up, and after its last it is idle"
abbrev pub read_step : State → ℕ → Phase → Result
read_step x i p = leaves (record_at x (place_in p)) (with_phase x.line i (one_less p)) x.book

abbrev pub look_step : State → Place → Result
look_step x k = record { answer = record_at x k; after = x }

-- ---- 09 free: "releases as in 04 and is idle; the pointer is unchanged and carried by the wake"
abbrev pub freed : Line → ℕ → Line
freed l i = lowered l i Phase.Idle l.pointer

abbrev pub free_step : Search → State → ℕ → Result
free_step search x i = leaves (Answer.Freed (next_of search (freed x.line i) i)) (released search (freed x.line i) i) x.book

-- ---- 0A enter: "Idle lane becomes gathered"
abbrev pub entered : Line → ℕ → ℕ → List Lane
entered l i c = set l.lane i (lane (Phase.Gathered c))

-- "lane r gets pointer + the counts of lanes below r, as a busy writer (idle if 0)"; one that is not gathered stays as it is
abbrev pub started_at : ℕ → Phase → Phase
started_at k x = cond (is_gathered x) (writing (count_in x) (place k)) x

unfoldable pub started : ℕ → List Lane → List Lane
started k [] = []
started k (l ∷ ls) = lane (started_at k l.phase) ∷ started (k + count_in l.phase) ls

-- "When all N are in": the ordered call is complete
abbrev pub all_entered : Line → List Lane → Bool
all_entered l lanes = eqb (count_pass (on is_gathered) lanes) l.lanes

abbrev pub ordered : State → List Lane → Result
ordered x lanes =
    leaves (Answer.Ordered x.line.pointer (gathered_total lanes))
    (with_pointer (with_lanes x.line (started x.line.pointer.0 lanes)) (place (x.line.pointer.0 + gathered_total lanes)))
    x.book

abbrev pub enter_step : State → ℕ → ℕ → Result
enter_step x i c =
    cond (all_entered x.line (entered x.line i c)) (ordered x (entered x.line i c))
    (leaves Answer.Gathered (with_lanes x.line (entered x.line i c)) x.book)

-- ---- 0B view: "Pointer becomes 0"
abbrev pub view_of : ℕ → ℕ → ℕ → List Block → View
view_of displacement extent used blocks = record { displacement = displacement; extent = extent; used = used; block = block_list blocks }

abbrev pub view_step : State → View → Result
view_step x v = leaves Answer.View (with_pointer (with_view x.line v) (place 0)) x.book

-- ---- 0C seek: "Whence 0: the offset; 1: pointer + offset", 2: the end of the book in the view in force, plus offset (Wish 4)
-- above 2 refusal 9 applies
abbrev pub seek_base : Line → ℕ → ℕ
seek_base l zero = 0
seek_base l (suc zero) = l.pointer.0
seek_base l (suc (suc k)) = (end_of_book l.view l.size).0

abbrev pub seek_target : Line → ℕ → ℤ → ℤ
seek_target l whence offset = pos (seek_base l whence) +ℤ offset

-- the place at a target that is not below 0
abbrev pub place_at : ℤ → Place
place_at (pos n) = place n
place_at (negsuc n) = place 0

abbrev pub seek_step : State → ℤ → Result
seek_step x target = leaves (Answer.Seek (place_at target)) (with_pointer x.line (place_at target)) x.book

-- ---- an accepted event
abbrev pub effect : Search → State → Event → Result
effect search x (Event.Open lanes capacity) = open_step x lanes capacity
effect search x (Event.Want i purpose) = want_step x i (purpose_of purpose)
effect search x (Event.Receive i) = receive_step x i (phase_at x.line i)
effect search x (Event.Take i c) = take_step search x i c (phase_at x.line i)
effect search x (Event.Write i content) = write_step x i content (phase_at x.line i)
effect search x (Event.Read i) = read_step x i (phase_at x.line i)
effect search x (Event.Put i k content) = put_step x k content
effect search x (Event.Look i k) = look_step x k
effect search x (Event.Free i) = free_step search x i
effect search x (Event.Enter i c) = enter_step x i c
effect search x (Event.View displacement extent used blocks) = view_step x (view_of displacement extent used blocks)
effect search x (Event.Seek whence offset) = seek_step x (seek_target x.line whence offset)
effect search x Event.Unlisted = leaves (Answer.Refused 2) x.line x.book
