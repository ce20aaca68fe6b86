-- What holds of each phase by itself.
use Prim.Native.Nat.{ℕ, ◌+◌, ◌≤◌}
use mathlib.Core.Path.{◌≡◌, refl, ap, ◌∙◌}
use mathlib.Core.Bool.{Bool, true, false, or_comm, or-false, and_comm, and-false}
use mathlib.Core.List.{List, [], ◌∷◌}
use native.Mathlib.Omega.{arith}
use lib.Dec.{eqb, leb}
use lib.ListN.{get_or}
use borrow.Author.Tests.{eqb-true}
use Rattle.lists.specs.Lists.{bit}
use Rattle.lists.proofs.Tests.{by_test}
use Rattle.view.specs.declared.Place.{Place}
use Rattle.line.specs.declared.Phase.{Phase}
use Rattle.line.specs.declared.Line.{Line}
use Rattle.line.specs.Line.{count_in, flag_for, has_turn, is_busy, is_flagged, is_gathered, is_holding, is_idle, is_idle_or_gathered, is_reading, is_waiting, is_woken, is_writing, left_in, phase_number, place_in, purpose_in}
use Rattle.line.specs.Sound.{apart, region_end, region_ok, value_ok}

-- a test as a flag, and back
bit_one : (b : Bool) → eqb (bit b) 1 ≡ b
bit_one true = refl
bit_one false = refl

one_bit : (b : Bool) → eqb 1 (bit b) ≡ b
one_bit true = refl
one_bit false = refl

pub up_one : (x : Phase) → eqb 1 (flag_for x) ≡ is_flagged x
up_one x = one_bit (is_flagged x)

pub one_up : (x : Phase) → eqb (flag_for x) 1 ≡ is_flagged x
one_up x = bit_one (is_flagged x)

pub waiting_up : (x : Phase) → is_waiting x ≡ true → is_flagged x ≡ true
waiting_up x e = rw e

pub flag_down : (x : Phase) → is_flagged x ≡ false → flag_for x ≡ 0
flag_down x e = rw e

-- ---- a phase has one number: laws about tests hold for phases that are added, too
pub numbered : (x : Phase) (k : ℕ) → eqb (phase_number x) k ≡ true → phase_number x ≡ k
numbered x k e = eqb-true (phase_number x) k e

bit_most : (b : Bool) → bit b ≤ 1
bit_most true = omega arith
bit_most false = omega arith

-- a phase is at most one of these
pub phase_kinds : (x : Phase) → bit (is_idle x) + bit (is_gathered x) + bit (is_flagged x) + bit (is_busy x) ≤ 1
phase_kinds x =
    by_test (is_idle x) (λ i. rw (numbered x 0 i) (omega arith))
    (λ i. by_test (is_gathered x) (λ g. rw (numbered x 6 g) (omega arith))
    (λ g. by_test (is_writing x) (λ w. rw (numbered x 4 w) (omega arith))
    (λ w. by_test (is_reading x) (λ r. rw (numbered x 5 r) (omega arith))
    (λ r. rw (i, g, w, r) (omega (arith, bit_most (is_flagged x)))))))

pub up_kinds : (x : Phase) → bit (is_flagged x) ≡ bit (has_turn x) + bit (is_waiting x)
up_kinds x = by_test (is_waiting x) (λ w. rw (numbered x 1 w) (omega arith)) (λ w. rw w (omega arith))

pub ready_kinds : (x : Phase) → bit (is_idle_or_gathered x) ≡ bit (is_idle x) + bit (is_gathered x)
ready_kinds x = by_test (is_idle x) (λ i. rw (numbered x 0 i) (omega arith)) (λ i. rw i (omega arith))

-- ---- from a test to the phase
-- the phases with what x carries, by their numbers
abbrev pub phases_with : Phase → List Phase
phases_with x =
    Phase.Idle ∷ Phase.Waiting (purpose_in x) ∷ Phase.Woken (purpose_in x) (place_in x) ∷ Phase.Holding (purpose_in x) (place_in x)
    ∷ Phase.BusyWriting (left_in x) (place_in x) ∷ Phase.BusyReading (left_in x) (place_in x) ∷ Phase.Gathered (count_in x) ∷ []

phase_is : (x : Phase) → x ≡ get_or (phases_with x) (phase_number x) Phase.Idle
phase_is Phase.Idle = refl
phase_is (Phase.Waiting p) = refl
phase_is (Phase.Woken p v) = refl
phase_is (Phase.Holding p v) = refl
phase_is (Phase.BusyWriting n k) = refl
phase_is (Phase.BusyReading n k) = refl
phase_is (Phase.Gathered n) = refl

pub numbered_is : (x : Phase) (k : ℕ) → eqb (phase_number x) k ≡ true → x ≡ get_or (phases_with x) k Phase.Idle
numbered_is x k e = phase_is x ∙ ap (λ (n : ℕ). get_or (phases_with x) n Phase.Idle) (numbered x k e)

pub idle_is : (x : Phase) → is_idle x ≡ true → x ≡ Phase.Idle
idle_is x e = numbered_is x 0 e

pub waiting_is : (x : Phase) → is_flagged x ≡ true → has_turn x ≡ false → x ≡ Phase.Waiting (purpose_in x)
waiting_is x u a = numbered_is x 1 (rw (a, or-false (is_waiting x)) at u)

pub woken_is : (x : Phase) → is_woken x ≡ true → x ≡ Phase.Woken (purpose_in x) (place_in x)
woken_is x e = numbered_is x 2 e

pub holding_is : (x : Phase) → is_holding x ≡ true → x ≡ Phase.Holding (purpose_in x) (place_in x)
holding_is x e = numbered_is x 3 e

pub writing_is : (x : Phase) → is_writing x ≡ true → x ≡ Phase.BusyWriting (left_in x) (place_in x)
writing_is x e = numbered_is x 4 e

pub reading_is : (x : Phase) → is_reading x ≡ true → x ≡ Phase.BusyReading (left_in x) (place_in x)
reading_is x e = numbered_is x 5 e

-- ---- lanes with no turn, and lanes that are not busy
pub no_value : (v : Place) (x : Phase) → has_turn x ≡ false → value_ok v x ≡ true
no_value v x e = rw e

pub no_region : (l : Line) (x : Phase) → is_busy x ≡ false → region_ok l x ≡ true
no_region l x e = rw e

pub no_overlap : (x y : Phase) → is_busy x ≡ false → apart x y ≡ true
no_overlap x y e = rw e

pub apart_sym : (x y : Phase) → apart x y ≡ true → apart y x ≡ true
apart_sym x y e =
    rw (and_comm (is_busy y) (is_busy x), or_comm (leb (region_end y) (place_in x).0) (leb (region_end x) (place_in y).0)) e

pub apart_idle : (x : Phase) → apart x Phase.Idle ≡ true
apart_idle x = rw (and-false (is_busy x))
