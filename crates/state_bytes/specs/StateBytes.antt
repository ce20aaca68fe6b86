-- The state of a line as bytes, in a fixed layout, and back. Both round trips, for every line and every byte string: state_bytes/RoundTrip.
use Rattle.std.specs.Prelude.{ℕ, zero, suc, ◌+◌, Bool, List, [], ◌∷◌, ◌++◌, map, eqb, leb, drop, get_or, length, replicate, take}
use Rattle.limits.specs.Limits.{most_lanes}
use Rattle.lists.specs.Lists.{all_pass, every, same_numbers}
use Rattle.view.specs.View.{block, place}
use Rattle.view.specs.declared.Block.{Block}
use Rattle.view.specs.declared.Place.{Place}
use Rattle.view.specs.declared.View.{View}
use Rattle.line.specs.Line.{count_in, lane, left_in, phase_number, place_in, purpose_in}
use Rattle.line.specs.declared.Lane.{Lane}
use Rattle.line.specs.declared.Line.{Line}
use Rattle.line.specs.declared.Phase.{Phase}
use Rattle.line.specs.declared.Purpose.{Purpose}
use Rattle.event.specs.BigEndian.{number_of}
use Rattle.event.specs.Event.{block_numbers, bytes_of, fields_in}
use Rattle.steps.specs.Effects.{purpose_of}

-- ---- the entry of a lane: phase 1, purpose 1, records 2, place 4
abbrev pub entry_lengths : List ℕ
entry_lengths = 1 ∷ 1 ∷ 2 ∷ 4 ∷ []

-- "Purposes: 0 shared write, 1 shared read, 2 whole book"
abbrev pub purpose_number : Purpose → ℕ
purpose_number Purpose.SharedWrite = 0
purpose_number Purpose.SharedRead = 1
purpose_number Purpose.WholeBook = 2

-- the purpose is 0 for a lane that has none, 0 for one that writes and 1 for one that reads; the records are those left or the count of a gathered lane
abbrev pub entry_numbers : Phase → List ℕ
entry_numbers x = phase_number x ∷ purpose_number (purpose_in x) ∷ (left_in x + count_in x) ∷ (place_in x).0 ∷ []

-- the phases with these numbers, by their own numbers
abbrev pub phases_from : Purpose → ℕ → Place → List Phase
phases_from purpose records k =
    Phase.Idle ∷ Phase.Waiting purpose ∷ Phase.Woken purpose k ∷ Phase.Holding purpose k ∷ Phase.BusyWriting records k ∷ Phase.BusyReading records k
    ∷ Phase.Gathered records ∷ []

-- the phase that an entry's numbers name
abbrev pub phase_of : List ℕ → Phase
phase_of numbers = get_or (phases_from (purpose_of (get_or numbers 1 0)) (get_or numbers 2 0) (place (get_or numbers 3 0))) (get_or numbers 0 0) Phase.Idle

-- numbers are an entry where they are those of the phase that they name: what the phase does not carry is 0, but for a reading lane's purpose
abbrev pub is_entry : List ℕ → Bool
is_entry numbers = same_numbers numbers (entry_numbers (phase_of numbers))

abbrev pub entry_bytes : Lane → List ℕ
entry_bytes x = bytes_of entry_lengths (entry_numbers x.phase)

-- the entries of lanes one after the other, and the numbers of this many entries
unfoldable pub entries_of : List Lane → List ℕ
entries_of [] = []
entries_of (x ∷ xs) = entry_bytes x ++ entries_of xs

unfoldable pub entries_in : ℕ → List ℕ → List (List ℕ)
entries_in zero bytes = []
entries_in (suc n) bytes = fields_in entry_lengths bytes ∷ entries_in n (drop 8 bytes)

-- ---- the head: the numbers of the line
-- "GUDL" in ASCII, and the number of this layout
abbrev pub mark : ℕ
mark = 0x4755444C

abbrev pub layout : ℕ
layout = 1

-- mark 4, layout 4, N 1, capacity 4, size 4, pointer 4; the view as in 0B: displacement 4, extent 2, blocks 1, eight times (start 2, length 2); reserved 4
abbrev pub head_lengths : List ℕ
head_lengths = 4 ∷ 4 ∷ 1 ∷ 4 ∷ 4 ∷ 4 ∷ 4 ∷ 2 ∷ 1 ∷ replicate 16 2 ++ 4 ∷ []

abbrev pub view_numbers : View → List ℕ
view_numbers v = v.displacement ∷ v.extent ∷ v.used ∷ block_numbers v.block

abbrev pub head_numbers : Line → List ℕ
head_numbers l = mark ∷ layout ∷ l.lanes ∷ l.capacity ∷ l.size ∷ l.pointer.0 ∷ view_numbers l.view ++ 0 ∷ []

-- ---- a state: the head, an entry and a flag for each lane that a line can have
abbrev pub entries_at : ℕ
entries_at = 64

abbrev pub flags_at : ℕ
flags_at = 1088

abbrev pub state_length : ℕ
state_length = 1216

abbrev pub state_bytes : Line → List ℕ
state_bytes l = bytes_of head_lengths (head_numbers l) ++ (entries_of l.lane ++ l.flag)

-- ---- read back
-- the number in the bytes from an index on
abbrev pub number_at : ℕ → ℕ → List ℕ → ℕ
number_at at width bytes = number_of (take width (drop at bytes))

abbrev pub block_at : ℕ → List ℕ → Block
block_at at bytes = block (number_at at 2 bytes) (number_at (at + 2) 2 bytes)

abbrev pub view_in : List ℕ → View
view_in bytes =
    record {
      displacement = number_at 21 4 bytes;
      extent = number_at 25 2 bytes;
      used = number_at 27 1 bytes;
      block =
          block_at 28 bytes ∷ block_at 32 bytes ∷ block_at 36 bytes ∷ block_at 40 bytes ∷ block_at 44 bytes ∷ block_at 48 bytes ∷ block_at 52 bytes
          ∷ block_at 56 bytes ∷ [];
    }

abbrev pub lane_of : List ℕ → Lane
lane_of numbers = lane (phase_of numbers)

-- the lane that the entry at an index names
abbrev pub lane_at : ℕ → List ℕ → Lane
lane_at at bytes = lane_of (fields_in entry_lengths (drop at bytes))

abbrev pub lanes_in : List ℕ → List Lane
lanes_in bytes = map lane_of (entries_in most_lanes (drop entries_at bytes))

-- the line that bytes name, whatever they are
abbrev pub line_in : List ℕ → Line
line_in bytes =
    record {
      lanes = number_at 8 1 bytes;
      capacity = number_at 9 4 bytes;
      size = number_at 13 4 bytes;
      pointer = place (number_at 17 4 bytes);
      view = view_in bytes;
      lane = lanes_in bytes;
      flag = take most_lanes (drop flags_at bytes);
    }

-- bytes are a line's where there are as many, the mark, the layout and the reserved bytes are these, and each entry is one. Bytes past them are not looked at
unfoldable pub is_state : List ℕ → Bool
is_state bytes =
    every
    (leb state_length (length bytes)
    ∷ eqb (number_at 0 4 bytes) mark
    ∷ eqb (number_at 4 4 bytes) layout
    ∷ eqb (number_at 60 4 bytes) 0
    ∷ all_pass is_entry (entries_in most_lanes (drop entries_at bytes))
    ∷ [])
