-- Document 01, "Reasons for refusing": each reason by its name, with its number and its test, and the list that gives the checking order.
use Rattle.std.specs.Prelude.{ℕ, ◌+◌, Bool, true, false, cond, not, ◌&&◌, ◌||◌, List, [], ◌∷◌, drop, get_or, length, ℤ, pos, negsuc, leb, ltb, eqb}
use Rattle.limits.specs.Limits.{least_capacity, most_capacity, most_lanes, most_pointer}
use Rattle.lists.specs.Lists.{all_pass, some_pass}
use Rattle.view.specs.View.{block, fits, place, view_ok}
use Rattle.view.specs.declared.Block.{Block}
use Rattle.view.specs.declared.Place.{Place}
use Rattle.view.specs.declared.View.{View}
use Rattle.line.specs.declared.Phase.{Phase}
use Rattle.line.specs.Line.{holds_shared, holds_whole, is_gathered, is_idle, is_idle_or_gathered, is_reading, is_shared_read, is_shared_write, is_waiting, is_woken, is_writing, on, phase_at, place_in, purpose_in}
use Rattle.line.specs.Sound.{gathered_total, sound}
use Rattle.event.specs.Kinds.{is_listed, kind_at}
use Rattle.event.specs.Event.{Call, block_list, cut_short, fields_of, given, kind_of, offset_in}
use Rattle.event.specs.declared.Event.{Event}
use Rattle.steps.specs.State.{State}
use Rattle.steps.specs.Effects.{entered, seek_target}

-- ---- what the reasons read off a call
abbrev pub is : ℕ → Event → Bool
is kind e = eqb (kind_of e) kind

abbrev pub field : ℕ → Event → ℕ
field k e = get_or (fields_of e) k 0

-- whether the kind names a lane, as its first field, and that lane and its phase
abbrev pub names_lane : Event → Bool
names_lane e = (kind_at (kind_of e)).names_lane

abbrev pub lane_of : Event → ℕ
lane_of e = field 0 e

abbrev pub phase_of : State → Event → Phase
phase_of x e = phase_at x.line (lane_of e)

-- the view of a view event: its fields displacement, extent, blocks in use, and then the starts and lengths of eight blocks
abbrev pub blocks_of : List ℕ → List Block
blocks_of [] = []
blocks_of (start ∷ []) = []
blocks_of (start ∷ length ∷ more) = block start length ∷ blocks_of more

abbrev pub view_in : Event → View
view_in e = record { displacement = field 0 e; extent = field 1 e; used = field 2 e; block = block_list (blocks_of (drop 3 (fields_of e))) }

-- ---- a reason: its number in document 01 and its test
pub record Reason : Type 0 where
  pub number : ℕ
  pub applies : State → Call → Bool

-- a reason that looks at the event: a body that is cut short has no fields
abbrev pub on_event : (Event → Bool) → Call → Bool
on_event test (given e) = test e
on_event test cut_short = false

abbrev pub reason : ℕ → (State → Event → Bool) → Reason
reason number test = record { number = number; applies = λ x c. on_event (test x) c }

-- "1. The line handed in is not sound (an unopened line is sound)"
abbrev pub not_sound : Reason
not_sound = record { number = 1; applies = λ x c. not (sound x.line (length x.book)) }

-- "2. The kind is not 01 to 0C"
abbrev pub not_listed : Reason
not_listed = reason 2 (λ x e. not (is_listed (kind_of e)))

-- "3. The body is cut short"
abbrev pub is_cut : Call → Bool
is_cut (given e) = false
is_cut cut_short = true

abbrev pub body_cut : Reason
body_cut = record { number = 3; applies = λ x c. is_cut c }

-- "4. A call other than 01 comes before the line is open"
abbrev pub not_open : Reason
not_open = reason 4 (λ x e. not (is 0x01 e) && eqb x.line.lanes 0)

-- "5. 01 comes to an open line"
abbrev pub already_open : Reason
already_open = reason 5 (λ x e. is 0x01 e && not (eqb x.line.lanes 0))

-- "6. The lanes of 01 are not 1 to 64", with Wish 2 "1 to 128"
abbrev pub lanes_outside : Reason
lanes_outside = reason 6 (λ x e. is 0x01 e && not (leb 1 (field 0 e) && leb (field 0 e) most_lanes))

-- "7. The capacity of 01 is not 8 to 65,536, or exceeds the buffer"
abbrev pub capacity_outside : Reason
capacity_outside =
    reason 7 (λ x e. is 0x01 e && not (leb least_capacity (field 1 e) && leb (field 1 e) most_capacity && leb (field 1 e) (length x.book)))

-- "8. The lane is not below N"
abbrev pub lane_outside : Reason
lane_outside = reason 8 (λ x e. names_lane e && leb x.line.lanes (lane_of e))

-- "9. The purpose or the whence is above 2"
abbrev pub purpose_or_whence_outside : Reason
purpose_or_whence_outside = reason 9 (λ x e. (is 0x02 e && ltb 2 (field 1 e)) || (is 0x0C e && ltb 2 (field 0 e)))

-- "10. The view breaks a rule above"
abbrev pub view_broken : Reason
view_broken = reason 10 (λ x e. is 0x0B e && not (view_ok x.line.capacity (view_in e)))

-- "11. For 0B or 0C some lane is not idle; for 0A some lane is neither idle nor gathered"; it looks at all entries, as 12 does: those past N are idle
abbrev pub lanes_not_ready : Reason
lanes_not_ready =
    reason 11 (λ x e. ((is 0x0B e || is 0x0C e) && not (all_pass (on is_idle) x.line.lane)) || (is 0x0A e && not (all_pass (on is_idle_or_gathered) x.line.lane)))

-- "12. 02 comes while a lane is gathered"
abbrev pub some_gathered : Reason
some_gathered = reason 12 (λ x e. is 0x02 e && some_pass (on is_gathered) x.line.lane)

-- "14. 03 comes to a waiting lane, with no wake yet"
abbrev pub no_wake_yet : Reason
no_wake_yet = reason 14 (λ x e. is 0x03 e && is_waiting (phase_of x e))

-- "13. The lane's phase or purpose does not allow the call, except where 14 applies"
-- the phase that each call wants of its lane
abbrev pub allows : Event → Phase → Bool
allows (Event.Open lanes capacity) p = true
allows (Event.Want i purpose) p = is_idle p
allows (Event.Receive i) p = is_woken p
allows (Event.Take i c) p = holds_shared p
allows (Event.Write i content) p = is_writing p
allows (Event.Read i) p = is_reading p
allows (Event.Put i k content) p = holds_whole p
allows (Event.Look i k) p = holds_whole p
allows (Event.Free i) p = holds_whole p
allows (Event.Enter i c) p = is_idle p
allows (Event.View displacement extent used blocks) p = true
allows (Event.Seek whence offset) p = true
allows Event.Unlisted p = true

abbrev pub phase_forbids : Reason
phase_forbids = record { number = 13; applies = λ x c. on_event (λ (e : Event). not (allows e (phase_of x e))) c && not (no_wake_yet.applies x c) }

-- "15. A seek, or a shared read's take, would put the pointer below 0 or above 65,536"
abbrev pub is_outside : ℤ → Bool
is_outside (pos n) = ltb most_pointer n
is_outside (negsuc n) = true

-- the place that the lane holds, and its purpose
abbrev pub held_place : State → Event → Place
held_place x e = place_in (phase_of x e)

abbrev pub pointer_outside : Reason
pointer_outside =
    reason 15
    (λ x e. cond (is 0x0C e) (is_outside (seek_target x.line (field 0 e) (offset_in e)))
    (is 0x04 e && (is_shared_read (purpose_in (phase_of x e)) && ltb most_pointer ((held_place x e).0 + field 1 e))))

-- "16. The records of 04 (purpose 0), of 07, or of 0A with all gathered so far, do not fit"
abbrev pub has_fit : State → Place → ℕ → Bool
has_fit x k t = fits x.line.view x.line.capacity k t

abbrev pub does_not_fit : Reason
does_not_fit =
    reason 16
    (λ x e. cond (is 0x04 e) (is_shared_write (purpose_in (phase_of x e)) && not (has_fit x (held_place x e) (field 1 e)))
    (cond (is 0x07 e) (not (has_fit x (place (field 1 e)) 1))
    (is 0x0A e && not (has_fit x x.line.pointer (gathered_total (entered x.line (lane_of e) (field 1 e)))))))

-- ---- the checking order: the sixteen of a call, the lowest number first
abbrev pub reasons : List Reason
reasons =
    not_sound
    ∷ not_listed
    ∷ body_cut
    ∷ not_open
    ∷ already_open
    ∷ lanes_outside
    ∷ capacity_outside
    ∷ lane_outside
    ∷ purpose_or_whence_outside
    ∷ view_broken
    ∷ lanes_not_ready
    ∷ some_gathered
    ∷ phase_forbids
    ∷ no_wake_yet
    ∷ pointer_outside
    ∷ does_not_fit
    ∷ []

-- ---- a list of reasons in its order
-- the reason with number k, if there is one, applies
abbrev pub applies_in : List Reason → ℕ → State → Call → Bool
applies_in [] k x c = false
applies_in (q ∷ qs) k x c = cond (eqb q.number k) (q.applies x c) (applies_in qs k x c)

-- the reasons that stand before the one with number k
abbrev pub before : ℕ → List Reason → List Reason
before k [] = []
before k (q ∷ qs) = cond (eqb q.number k) [] (q ∷ before k qs)

-- no two have one number
abbrev pub differ_in : List Reason → Bool
differ_in [] = true
differ_in (q ∷ qs) = all_pass (λ (r : Reason). not (eqb q.number r.number)) qs && differ_in qs
