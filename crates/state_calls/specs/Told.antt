-- What is told of a line in state bytes: whether it is sound, what a lane is doing, its numbers, the position of a place.
use Rattle.std.specs.Prelude.{Option, Some, None, ℕ, Bool, cond, ◌&&◌, List, [], ◌∷◌, ltb, get_or, map}
use Rattle.limits.specs.Limits.{most_lanes}
use Rattle.lists.specs.Lists.{every}
use Rattle.view.specs.View.{place, position_of}
use Rattle.line.specs.Line.{idle_lane}
use Rattle.line.specs.Sound.{sound}
use Rattle.line.specs.declared.Line.{Line}
use Rattle.event.specs.BigEndian.{number_of}
use Rattle.state_bytes.specs.StateBytes.{entry_bytes, is_state, line_in}

-- the greatest number of 64 bits, told where there is nothing to tell
abbrev pub nothing : ℕ
nothing = 18446744073709551615

abbrev pub or_nothing : Option ℕ → ℕ
or_nothing (Some n) = n
or_nothing None = nothing

-- the bytes are a sound line, with a book of this length
abbrev pub sound_in : List ℕ → ℕ → Bool
sound_in state buffer = is_state state && sound (line_in state) buffer

-- a lane's entry as one number; none where the bytes are no line, or it has no such lane
abbrev pub lane_if_any : List ℕ → ℕ → Option ℕ
lane_if_any state i =
    cond (every (is_state state ∷ ltb i (line_in state).lanes ∷ ltb i most_lanes ∷ []))
    (Some (number_of (entry_bytes (get_or (line_in state).lane i idle_lane))))
    None

-- the line's numbers: N, capacity, size, pointer, and of the view displacement, extent and blocks
abbrev pub line_numbers : Line → List ℕ
line_numbers l = l.lanes ∷ l.capacity ∷ l.size ∷ l.pointer.0 ∷ l.view.displacement ∷ l.view.extent ∷ l.view.used ∷ []

-- the one with this index, if it has one
abbrev pub number_by : Line → ℕ → Option ℕ
number_by l k = get_or (map Some (line_numbers l)) k None

abbrev pub number_if_any : List ℕ → ℕ → Option ℕ
number_if_any state k = cond (is_state state) (number_by (line_in state) k) None

abbrev pub position_if_any : List ℕ → ℕ → Option ℕ
position_if_any state k = cond (is_state state) (Some (position_of (line_in state).view (place k)).0) None

-- the same as a number for C
abbrev pub lane_told : List ℕ → ℕ → ℕ
lane_told state i = or_nothing (lane_if_any state i)

abbrev pub number_told : List ℕ → ℕ → ℕ
number_told state k = or_nothing (number_if_any state k)

abbrev pub position_told : List ℕ → ℕ → ℕ
position_told state k = or_nothing (position_if_any state k)
