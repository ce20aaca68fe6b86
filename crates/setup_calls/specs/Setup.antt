-- What the calls that set the line up decide from numbers: the refusal, 0 for none, and the place of a seek. Tied to `call_event` by setup_calls/Steps: open_step_lem, view_step_lem, seek_step_lem.
use Rattle.std.specs.Prelude.{ℕ, zero, suc, Bool, cond, not, ◌&&◌, eqb, leb, ltb, ℤ, pos, ◌+ℤ◌, Option, Some, None, Result, Ok, Err, ◌≡◌}
use Rattle.limits.specs.Limits.{least_capacity, most_capacity, most_lanes}
use Rattle.view.specs.View.{end_of_book, place, view_ok}
use Rattle.view.specs.declared.Place.{Place}
use Rattle.view.specs.declared.View.{View}
use Rattle.event.specs.Refusal.{number_of}
use Rattle.event.specs.declared.Refusal.{Refusal}
use Rattle.steps.specs.Effects.{place_at}
use Rattle.steps.specs.Refusals.{is_outside}

-- ---- the place of a seek
abbrev pub base_of : ℕ → Place → Place → Place
base_of zero pointer end = place 0
base_of (suc zero) pointer end = pointer
base_of (suc (suc k)) pointer end = end

abbrev pub target_of : ℕ → Place → View → ℕ → ℤ → ℤ
target_of size pointer v whence offset = pos (base_of whence pointer (end_of_book v size)).0 +ℤ offset

-- none where the sum is outside the pointer's range
abbrev pub sought_at : ℤ → Option Place
sought_at target = cond (is_outside target) None (Some (place_at target))

-- ---- the refusals: 01
abbrev pub lanes_test : ℕ → Bool
lanes_test lanes = leb 1 lanes && leb lanes most_lanes

abbrev pub capacity_test : ℕ → ℕ → Bool
capacity_test capacity buffer = leb least_capacity capacity && leb capacity most_capacity && leb capacity buffer

abbrev pub open_refusal : ℕ → ℕ → ℕ → ℕ → ℕ
open_refusal own lanes capacity buffer =
    cond (not (eqb own 0)) 5 (cond (not (lanes_test lanes)) 6 (cond (not (capacity_test capacity buffer)) 7 0))

-- 0B
abbrev pub view_refusal : ℕ → ℕ → View → Bool → ℕ
view_refusal own capacity v idle = cond (eqb own 0) 4 (cond (not (view_ok capacity v)) 10 (cond (not idle) 11 0))

-- 0C
abbrev pub seek_refusal : ℕ → ℕ → Place → View → ℕ → ℤ → Bool → ℕ
seek_refusal own size pointer v whence offset idle =
    cond (eqb own 0) 4 (cond (ltb 2 whence) 9 (cond (not idle) 11 (cond (is_outside (target_of size pointer v whence offset)) 15 0)))

-- what a seek comes to with this number: the place sought where it is 0, and else the reason with it
abbrev pub Seeks : ℕ → ℤ → Result Place Refusal → Type 0
Seeks number target (Ok k) = (number ≡ 0) × (Some k ≡ sought_at target)
Seeks number target (Err r) = number ≡ number_of r
