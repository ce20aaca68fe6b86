-- The trials of demand 3, by computation.
use Prim.Native.Nat.{ℕ, ◌≤◌}
use mathlib.Core.Path.{◌≡◌, refl, ap, ◌∙◌}
use mathlib.Core.Bool.{true}
use mathlib.Core.List.{List, [], ◌∷◌, ◌++◌, map}
use native.Mathlib.Omega.{arith}
use lib.ListN.{get_or}
use Rattle.lists.specs.Lists.{count_pass}
use Rattle.view.specs.View.{block_record, in_order, position_of, view_ok}
use Rattle.line.specs.Sound.{sound}
use Rattle.waitlist.specs.Distance.{distance}
use Rattle.waitlist.specs.NextLane.{first_raised, next_lane}
use Rattle.event.specs.BigEndian.{big_endian, number_of}
use Rattle.event.specs.Event.{fields_in}
use Rattle.steps.specs.Effects.{started}
use Rattle.steps.specs.Answer.{said_by}
use Rattle.steps.specs.State.{Result, State, fresh}
use Rattle.steps.specs.Step.{after_by, step, step_by}
use Rattle.steps.proofs.Keeps.{GoodState, unopened_good}
use Rattle.steps.proofs.PastFirst.{after_past_1, after_past1, calls_good, step_good, step_past_1, step_past1}
use Rattle.trace.specs.Trace.{CallBytes, Entry, after_all, call_in, entries, entry, is_release, lanes_in, tells_to_wait, wakes}
use Rattle.demand3.specs.Longest.{AlwaysEnough}
use Rattle.demand3.specs.Claim.{Demand3, Handed, count_for, entries_after, entry_after, grants, hand_to, handed, shares, status}
use Rattle.trials.specs.Trials.{book64, from_zero, long_before, long_early, long_later, mixed, opening, passes_from, wanting, wants_from, zero_early, zero_later}

-- ---- computed without the test for 1, which never applies here: it compares each two lanes of the line
abbrev state_past1 : List CallBytes → State
state_past1 early = after_past1 (fresh book64) (map call_in early)

state_past_1 : (early : List CallBytes) → after_all next_lane (fresh book64) early ≡ state_past1 early
state_past_1 early = after_past_1 (map call_in early) (fresh book64) (unopened_good book64)

state_good : (early : List CallBytes) → GoodState (after_all next_lane (fresh book64) early)
state_good early = calls_good (map call_in early) (fresh book64) (unopened_good book64)

abbrev entry_past1 : State → CallBytes → Entry
entry_past1 x g = entry g (said_by (step_past1 x (call_in g)).answer)

unfoldable entries_past1 : State → List CallBytes → List Entry
entries_past1 x [] = []
entries_past1 x (g ∷ gs) = entry_past1 x g ∷ entries_past1 (step_past1 x (call_in g)).after gs

entries_past_1 : (gs : List CallBytes) (x : State) → GoodState x → entries next_lane x gs ≡ entries_past1 x gs
unfolding entries entries_past1
entries_past_1 [] x G = refl
entries_past_1 (g ∷ gs) x G = rw (← step_past_1 x G (call_in g), entries_past_1 gs (step x (call_in g)).after (step_good x G (call_in g)))

entry_after_lem : (early : List CallBytes) (g : CallBytes) → entry_after next_lane book64 early g ≡ entry_past1 (state_past1 early) g
entry_after_lem early g =
    ap (λ (r : Result). entry g (said_by r.answer)) (step_past_1 (after_all next_lane (fresh book64) early) (state_good early) (call_in g))
    ∙ ap (λ (x : State). entry_past1 x g) (state_past_1 early)

entries_after_lem : (early later : List CallBytes) → entries_after next_lane book64 early later ≡ entries_past1 (state_past1 early) later
entries_after_lem early later =
    entries_past_1 later (after_all next_lane (fresh book64) early) (state_good early) ∙ ap (λ (x : State). entries_past1 x later) (state_past_1 early)

-- ---- lane 127 of 128 waits for lane 0: 127 steps. After 126 releases it is not woken, and the 127th wakes it
pub long_distance : distance 128 0 127 ≡ 127
unfolding distance
long_distance = refl

pub long_told : tells_to_wait 127 (entry_after next_lane book64 (long_before 127) (wanting 127 0)) ≡ true
unfolding block_record in_order position_of view_ok first_raised next_lane big_endian number_of fields_in started step_past1 after_past1 wants_from
long_told = ap (tells_to_wait 127) (entry_after_lem (long_before 127) (wanting 127 0))

-- the releases and the wakes of lane 127
abbrev releases_and_wakes : List Entry → List ℕ
releases_and_wakes es = count_pass is_release es ∷ count_pass (wakes 127) es ∷ []

pub long_not_yet : releases_and_wakes (entries_after next_lane book64 (long_early 127) (long_later 126)) ≡ 126 ∷ 0 ∷ []
unfolding block_record in_order position_of view_ok first_raised next_lane big_endian number_of fields_in started step_past1 after_past1 entries_past1 wants_from passes_from
long_not_yet = ap releases_and_wakes (entries_after_lem (long_early 127) (long_later 126))

pub long_woken : releases_and_wakes (entries_after next_lane book64 (long_early 127) (long_later 127)) ≡ 127 ∷ 1 ∷ []
unfolding block_record in_order position_of view_ok first_raised next_lane big_endian number_of fields_in started step_past1 after_past1 entries_past1 wants_from passes_from
long_woken = ap releases_and_wakes (entries_after_lem (long_early 127) (long_later 127))

-- so 126 releases are not enough for every wait
pub within_126_fails : AlwaysEnough (λ (book : List ℕ) (calls : List CallBytes). 126) → ⊥
within_126_fails always =
    let es = entries_after next_lane book64 (long_early 127) (long_later 126) in
    let released : count_pass is_release es ≡ 126 = ap (λ (ns : List ℕ). get_or ns 0 0) long_not_yet in
    let woken : count_pass (wakes 127) es ≡ 0 = ap (λ (ns : List ℕ). get_or ns 1 0) long_not_yet in
    let sent = always book64 (long_before 127) (wanting 127 0) 127 long_told (long_later 126) (omega (arith, released)) in
    omega (arith, sent, woken)

-- the places that the mixed list hands out, each with its lane: 0 and 1 to lane 1, 2 to lane 2, and by the ordered call 3 to lane 0, 4 and 5 to lane 2
abbrev places_in : List Entry → List ℕ
places_in es = map (λ (h : Handed). h.place) (handed (grants 3 [] es))

abbrev lanes_handed : List Entry → List ℕ
lanes_handed es = map (λ (h : Handed). h.lane) (handed (grants 3 [] es))

pub mixed_places : places_in (entries_after next_lane book64 (opening 3 ∷ []) mixed) ≡ 0 ∷ 1 ∷ 2 ∷ 3 ∷ 4 ∷ 5 ∷ []
unfolding block_record in_order position_of view_ok first_raised next_lane big_endian number_of fields_in started step_past1 after_past1 entries_past1 count_for shares grants hand_to handed
mixed_places = ap places_in (entries_after_lem (opening 3 ∷ []) mixed)

pub mixed_lanes : lanes_handed (entries_after next_lane book64 (opening 3 ∷ []) mixed) ≡ 1 ∷ 1 ∷ 2 ∷ 0 ∷ 2 ∷ 2 ∷ []
unfolding block_record in_order position_of view_ok first_raised next_lane big_endian number_of fields_in started step_past1 after_past1 entries_past1 count_for shares grants hand_to handed
mixed_lanes = ap lanes_handed (entries_after_lem (opening 3 ∷ []) mixed)

-- of a line that searches from lane 0 at each release demand 3 is false: lane 2 is told to wait at distance 2, and three releases do not wake it
pub from_zero_fails : Demand3 from_zero book64 ((zero_early ++ wanting 2 0 ∷ []) ++ (zero_later ++ [])) → ⊥
unfolding block_record in_order position_of view_ok sound first_raised big_endian number_of fields_in started step_by after_by entries status lanes_in distance
from_zero_fails D =
    let W = D.waits_end zero_early zero_later [] (wanting 2 0) 2 refl refl in
    let h : 0 ≡ W.holder = W.one.only 0 refl in
    let near : distance 3 0 2 ≤ 3 = omega arith in
    let woken : 1 ≤ 0 = W.sent (rw (← h) near) in
    omega arith
