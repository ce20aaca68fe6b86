-- The calls 02, 03, 04 and 09 as changes, past the tests of 4 and 8. Tied to `call_event` by turn_calls/Steps: want_step_lem, receive_step_lem, take_step_lem, free_step.
use Rattle.std.specs.Prelude.{Option, None, ℕ, ◌+◌, Bool, cond, not, List, eqb, ltb, set}
use Rattle.lists.specs.Lists.{all_pass}
use Rattle.view.specs.View.{fits, place}
use Rattle.view.specs.declared.Place.{Place}
use Rattle.view.specs.declared.View.{View}
use Rattle.line.specs.declared.Purpose.{Purpose}
use Rattle.line.specs.declared.Phase.{Phase}
use Rattle.limits.specs.Limits.{most_pointer}
use Rattle.line.specs.Line.{holds_whole, is_holding, is_idle, is_waiting, is_woken, place_in, purpose_in}
use Rattle.waitlist.specs.NextLane.{next_lane}
use Rattle.steps.specs.declared.Answer.{Answer}
use Rattle.steps.specs.Effects.{purpose_of, reading, writing}
use Rattle.changes.specs.Change.{refused_change}
use Rattle.changes.specs.declared.Change.{Change}
use Rattle.changes.specs.declared.Seen.{Seen}

-- the lane's phase and flag alone change
abbrev pub moved_to : Seen → Answer → Phase → ℕ → Change
moved_to s a y f = record { answer = a; phase = y; flag = f; pointer = s.pointer; size = s.size; wakes = None }

-- ---- 02
-- the flag goes up; alone the lane holds with the pointer, and else it waits
abbrev pub holds_now : Seen → Purpose → Change
holds_now s p = moved_to s (Answer.Holds s.pointer) (Phase.Holding p s.pointer) 1

abbrev pub waits : Seen → Purpose → Change
waits s p = moved_to s Answer.Waits (Phase.Waiting p) 1

abbrev pub wanted : Seen → Bool → Purpose → Change
wanted s alone p = cond alone (holds_now s p) (waits s p)

abbrev pub want_change : Seen → List ℕ → ℕ → ℕ → Change
want_change s flags i purpose =
    cond (ltb 2 purpose) (refused_change s 9)
    (cond s.gathering (refused_change s 12)
    (cond (not (is_idle s.phase)) (refused_change s 13) (wanted s (all_pass (eqb 0) (set flags i 0)) (purpose_of purpose))))

-- ---- 03: 14 to a waiting lane, 13 to any but a woken one
abbrev pub received_by : Seen → Phase → Change
received_by s x =
    cond (is_woken x) (moved_to s (Answer.Holds (place_in x)) (Phase.Holding (purpose_in x) (place_in x)) s.flag)
    (cond (is_waiting x) (refused_change s 14) (refused_change s 13))

abbrev pub receive_change : Seen → Change
receive_change s = received_by s s.phase

-- ---- a release, of 04 and 09: the flag drops, and the next lane is woken
abbrev pub next_for : Seen → List ℕ → ℕ → Option ℕ
next_for s flags i = next_lane s.lanes (set flags i 0) i

abbrev pub released_to : Seen → Answer → Phase → Place → Option ℕ → Change
released_to s a y p w = record { answer = a; phase = y; flag = 0; pointer = p; size = s.size; wakes = w }

-- ---- 04
abbrev pub taken_change : Seen → List ℕ → ℕ → Place → ℕ → Phase → Change
taken_change s flags i v c y = released_to s (Answer.Region v c (next_for s flags i)) y (place (v.0 + c)) (next_for s flags i)

-- 16 where the records of a shared write do not fit
abbrev pub taken_to_write : Seen → Bool → List ℕ → ℕ → Place → ℕ → Change
taken_to_write s fitting flags i v c = cond (not fitting) (refused_change s 16) (taken_change s flags i v c (writing c v))

-- 15 where a shared read would put the pointer past its range
abbrev pub taken_to_read : Seen → List ℕ → ℕ → Place → ℕ → Change
taken_to_read s flags i v c = cond (ltb most_pointer (v.0 + c)) (refused_change s 15) (taken_change s flags i v c (reading c v))

abbrev pub taken_by : Seen → Bool → List ℕ → ℕ → Purpose → Place → ℕ → Change
taken_by s fitting flags i Purpose.SharedWrite v c = taken_to_write s fitting flags i v c
taken_by s fitting flags i Purpose.SharedRead v c = taken_to_read s flags i v c
taken_by s fitting flags i Purpose.WholeBook v c = refused_change s 13

-- 13 to a lane that does not hold
abbrev pub taken_from : Seen → Bool → List ℕ → ℕ → ℕ → Phase → Change
taken_from s fitting flags i c x = cond (is_holding x) (taken_by s fitting flags i (purpose_in x) (place_in x) c) (refused_change s 13)

-- the records fit from the place that the lane holds
abbrev pub take_fits : View → Seen → ℕ → Bool
take_fits view s c = fits view s.capacity (place_in s.phase) c

abbrev pub take_change : Seen → View → List ℕ → ℕ → ℕ → Change
take_change s view flags i c = taken_from s (take_fits view s c) flags i c s.phase

-- ---- 09
abbrev pub freed_change : Seen → List ℕ → ℕ → Change
freed_change s flags i = released_to s (Answer.Freed (next_for s flags i)) Phase.Idle s.pointer (next_for s flags i)

abbrev pub free_change : Seen → List ℕ → ℕ → Change
free_change s flags i = cond (not (holds_whole s.phase)) (refused_change s 13) (freed_change s flags i)
