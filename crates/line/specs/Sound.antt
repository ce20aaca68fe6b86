-- Document 01, "Sound line", sentence by sentence, for any numbers that the types hold and any length of the lent buffer.
use Rattle.std.specs.Prelude.{ℕ, ◌+◌, Bool, cond, ◌&&◌, ◌||◌, List, [], ◌∷◌, map, drop, leb, ltb, eqb}
use Rattle.lists.specs.Lists.{all_pass, some_pass, count_pass, every, implies, pairwise, same_numbers, sum_of}
use Rattle.view.specs.View.{fits, is_plain, view_ok}
use Rattle.view.specs.declared.Place.{Place}
use Rattle.line.specs.declared.Phase.{Phase}
use Rattle.line.specs.declared.Lane.{Lane}
use Rattle.line.specs.declared.Line.{Line}
use Rattle.limits.specs.Limits.{least_capacity, most_capacity, most_lanes, most_pointer}
use Rattle.line.specs.Line.{count_in, flag_for, has_turn, is_busy, is_gathered, is_idle, is_idle_or_gathered, is_writing, left_in, on, place_in}

-- "An unopened line has N, capacity, size and pointer 0, and the plain view"
abbrev pub unopened_numbers : Line → Bool
unopened_numbers l = every (eqb l.capacity 0 ∷ eqb l.size 0 ∷ eqb l.pointer.0 0 ∷ is_plain l.view ∷ [])

-- "N, capacity, size (at most the capacity), pointer and view are in range and the buffer holds the capacity"
abbrev pub open_numbers : Line → ℕ → Bool
open_numbers l buffer =
    every
    (leb l.lanes most_lanes
    ∷ leb least_capacity l.capacity
    ∷ leb l.capacity most_capacity
    ∷ leb l.size l.capacity
    ∷ leb l.pointer.0 most_pointer
    ∷ view_ok l.capacity l.view
    ∷ leb l.capacity buffer
    ∷ [])

-- the numbers of a line that is unopened, and of one that is open
abbrev pub numbers_ok : Line → ℕ → Bool
numbers_ok l buffer = cond (eqb l.lanes 0) (unopened_numbers l) (open_numbers l buffer)

-- "A flag is 1 for waiting, woken and holding lanes and no others"
abbrev pub flags_ok : Line → Bool
flags_ok l = same_numbers l.flag (map (on flag_for) l.lane)

-- the value of a woken or holding lane is the pointer
abbrev pub value_ok : Place → Phase → Bool
value_ok pointer x = implies (has_turn x) (eqb (place_in x).0 pointer.0)

-- "If a flag is 1, exactly one lane is woken or holding, and its value is the pointer"
abbrev pub turn_ok : Line → Bool
turn_ok l = implies (some_pass (eqb 1) l.flag) (eqb (count_pass (on has_turn) l.lane) 1 && all_pass (on (value_ok l.pointer)) l.lane)

-- the counts of the gathered lanes, added up
abbrev pub gathered_total : List Lane → ℕ
gathered_total ls = sum_of (on count_in) ls

-- "If a lane is gathered, all are idle or gathered, not all gathered, and the gathered total fits"
abbrev pub gathered_ok : Line → Bool
gathered_ok l =
    implies (some_pass (on is_gathered) l.lane)
    (every
    (all_pass (on is_idle_or_gathered) l.lane
    ∷ ltb (count_pass (on is_gathered) l.lane) l.lanes
    ∷ fits l.view l.capacity l.pointer (gathered_total l.lane)
    ∷ []))

-- where a busy lane's region ends: the region is what is left of it
abbrev pub region_end : Phase → ℕ
region_end x = (place_in x).0 + left_in x

-- "Busy lanes have a record left and regions that end at or below the pointer ..; a writer's records fit"
abbrev pub region_ok : Line → Phase → Bool
region_ok l x =
    implies (is_busy x)
    (every (leb 1 (left_in x) ∷ leb (region_end x) l.pointer.0 ∷ implies (is_writing x) (fits l.view l.capacity (place_in x) (left_in x)) ∷ []))

-- ".. and share no place"
abbrev pub apart : Phase → Phase → Bool
apart x y = implies (is_busy x && is_busy y) (leb (region_end x) (place_in y).0 || leb (region_end y) (place_in x).0)

abbrev pub apart_lanes : Lane → Lane → Bool
apart_lanes a b = apart a.phase b.phase

abbrev pub busy_ok : Line → Bool
busy_ok l = all_pass (on (region_ok l)) l.lane && pairwise apart_lanes l.lane

-- "Entries past N are idle with flag 0"
abbrev pub past_ok : Line → Bool
past_ok l = all_pass (on is_idle) (drop l.lanes l.lane) && all_pass (eqb 0) (drop l.lanes l.flag)

-- a sound line, with a lent buffer of this length
unfoldable pub sound : Line → ℕ → Bool
sound l buffer = every (numbers_ok l buffer ∷ flags_ok l ∷ turn_ok l ∷ gathered_ok l ∷ busy_ok l ∷ past_ok l ∷ [])
