-- Document 01, "The line": lanes and their phases, and the values that a line starts with.
use Rattle.std.specs.Prelude.{ℕ, Bool, true, false, not, ◌&&◌, ◌||◌, eqb, get_or, length, replicate, ◌≡◌}
use Rattle.limits.specs.Limits.{most_blocks, most_lanes}
use Rattle.lists.specs.Lists.{bit}
use Rattle.view.specs.View.{place, plain_view}
use Rattle.view.specs.declared.Place.{Place}
use Rattle.line.specs.declared.Purpose.{Purpose}
use Rattle.line.specs.declared.Phase.{Phase}
use Rattle.line.specs.declared.Lane.{Lane}
use Rattle.line.specs.declared.Line.{Line}

-- ---- purposes
abbrev pub is_shared_write : Purpose → Bool
is_shared_write Purpose.SharedWrite = true
is_shared_write Purpose.SharedRead = false
is_shared_write Purpose.WholeBook = false

abbrev pub is_shared_read : Purpose → Bool
is_shared_read Purpose.SharedWrite = false
is_shared_read Purpose.SharedRead = true
is_shared_read Purpose.WholeBook = false

abbrev pub is_whole_book : Purpose → Bool
is_whole_book Purpose.SharedWrite = false
is_whole_book Purpose.SharedRead = false
is_whole_book Purpose.WholeBook = true

-- ---- phases
-- a phase's number, in the order of the enum: what tells it from the others
abbrev pub phase_number : Phase → ℕ
phase_number Phase.Idle = 0
phase_number (Phase.Waiting p) = 1
phase_number (Phase.Woken p v) = 2
phase_number (Phase.Holding p v) = 3
phase_number (Phase.BusyWriting left next) = 4
phase_number (Phase.BusyReading left next) = 5
phase_number (Phase.Gathered n) = 6

abbrev pub is_idle : Phase → Bool
is_idle x = eqb (phase_number x) 0

abbrev pub is_waiting : Phase → Bool
is_waiting x = eqb (phase_number x) 1

abbrev pub is_woken : Phase → Bool
is_woken x = eqb (phase_number x) 2

abbrev pub is_holding : Phase → Bool
is_holding x = eqb (phase_number x) 3

abbrev pub is_writing : Phase → Bool
is_writing x = eqb (phase_number x) 4

abbrev pub is_reading : Phase → Bool
is_reading x = eqb (phase_number x) 5

abbrev pub is_gathered : Phase → Bool
is_gathered x = eqb (phase_number x) 6

-- woken or holding: the lane whose turn it is
abbrev pub has_turn : Phase → Bool
has_turn x = is_woken x || is_holding x

-- "busy (writing or reading a region ..)"
abbrev pub is_busy : Phase → Bool
is_busy x = is_writing x || is_reading x

abbrev pub is_idle_or_gathered : Phase → Bool
is_idle_or_gathered x = is_idle x || is_gathered x

-- "A flag is 1 for waiting, woken and holding lanes and no others"
abbrev pub is_flagged : Phase → Bool
is_flagged x = is_waiting x || has_turn x

abbrev pub flag_for : Phase → ℕ
flag_for x = bit (is_flagged x)

-- the purpose of a waiting, woken or holding lane; where another lane's is read, refusal 13 applies and is lower than what it decides
abbrev pub purpose_in : Phase → Purpose
purpose_in Phase.Idle = Purpose.SharedWrite
purpose_in (Phase.Waiting p) = p
purpose_in (Phase.Woken p v) = p
purpose_in (Phase.Holding p v) = p
purpose_in (Phase.BusyWriting left next) = Purpose.SharedWrite
purpose_in (Phase.BusyReading left next) = Purpose.SharedRead
purpose_in (Phase.Gathered n) = Purpose.SharedWrite

-- the place that a phase carries: the pointer value of a woken or holding lane, the next place of a busy one; 0 for the others
abbrev pub place_in : Phase → Place
place_in Phase.Idle = place 0
place_in (Phase.Waiting p) = place 0
place_in (Phase.Woken p v) = v
place_in (Phase.Holding p v) = v
place_in (Phase.BusyWriting left next) = next
place_in (Phase.BusyReading left next) = next
place_in (Phase.Gathered n) = place 0

-- the records that a busy lane has left; 0 for the others
abbrev pub left_in : Phase → ℕ
left_in Phase.Idle = 0
left_in (Phase.Waiting p) = 0
left_in (Phase.Woken p v) = 0
left_in (Phase.Holding p v) = 0
left_in (Phase.BusyWriting left next) = left
left_in (Phase.BusyReading left next) = left
left_in (Phase.Gathered n) = 0

-- the count with which a lane entered an ordered call
abbrev pub count_in : Phase → ℕ
count_in Phase.Idle = 0
count_in (Phase.Waiting p) = 0
count_in (Phase.Woken p v) = 0
count_in (Phase.Holding p v) = 0
count_in (Phase.BusyWriting left next) = 0
count_in (Phase.BusyReading left next) = 0
count_in (Phase.Gathered n) = n

abbrev pub holds_shared : Phase → Bool
holds_shared x = is_holding x && not (is_whole_book (purpose_in x))

abbrev pub holds_whole : Phase → Bool
holds_whole x = is_holding x && is_whole_book (purpose_in x)

-- ---- lanes and lines
-- a test or a number of a phase, as one of the lane
abbrev pub on : {A : Type 0} → (Phase → A) → Lane → A
on f l = f l.phase

abbrev pub lane : Phase → Lane
lane x = record { phase = x }

abbrev pub idle_lane : Lane
idle_lane = lane Phase.Idle

abbrev pub phase_at : Line → ℕ → Phase
phase_at l i = (get_or l.lane i idle_lane).phase

-- "An unopened line has N, capacity, size and pointer 0, and the plain view"; its entries are idle with flag 0
abbrev pub unopened : Line
unopened =
    record {
      lanes = 0;
      capacity = 0;
      size = 0;
      pointer = place 0;
      view = plain_view;
      lane = replicate most_lanes idle_lane;
      flag = replicate most_lanes 0;
    }

-- what the types fix of a line: the lengths of its arrays
pub record Shaped (l : Line) : Type 0 where
  pub lanes_length : length l.lane ≡ most_lanes
  pub flags_length : length l.flag ≡ most_lanes
  pub blocks_length : length l.view.block ≡ most_blocks
