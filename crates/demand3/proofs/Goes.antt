-- Where a lane waits, one lane has the turn, and its next call would be accepted.
use Prim.Native.Nat.{ℕ, ◌+◌, ◌<◌}
use mathlib.Core.Path.{◌≡◌, refl, sym}
use mathlib.Core.Bool.{true, false}
use mathlib.Core.List.{[], ◌∷◌}
use native.Mathlib.Omega.{arith}
use lib.ListN.{length}
use lib.Dec.{eqb, leb, ltb}
use borrow.Author.Tests.{le-ltb, lt-leb, ne_eqb}
use Rattle.lists.specs.Lists.{some_pass}
use Rattle.lists.proofs.Tests.{clash}
use Rattle.view.specs.declared.Place.{Place}
use Rattle.line.specs.declared.Purpose.{Purpose}
use Rattle.line.specs.declared.Phase.{Phase}
use Rattle.line.specs.declared.Line.{Line}
use Rattle.limits.specs.Limits.{most_pointer}
use Rattle.line.specs.Line.{has_turn, is_waiting, phase_at}
use Rattle.line.specs.Sound.{sound}
use Rattle.line.proofs.Phases.{waiting_up}
use Rattle.line.proofs.Facts.{Facts, sound_of, when_open}
use Rattle.waitlist.specs.NextLane.{next_lane}
use Rattle.event.specs.BigEndian.{number_of}
use Rattle.event.specs.Event.{fields_in, given}
use Rattle.event.specs.declared.Event.{Event}
use Rattle.steps.specs.Answer.{said_by}
use Rattle.steps.specs.State.{State}
use Rattle.steps.specs.Refusals.{reasons}
use Rattle.steps.specs.Step.{step_by}
use Rattle.steps.proofs.Keeps.{GoodState, holding_value}
use Rattle.steps.proofs.CheckingOrder.{applying, none_accepts, none_applies}
use Rattle.trace.specs.Trace.{call_in, said_to}
use Rattle.demand3.specs.Claim.{next_call, release, woken}
use Rattle.demand3.proofs.Status.{number_for, status_of}
use Rattle.demand3.proofs.Turn.{same_turn, turn_found, turn_up, up_count, up_inside}

-- ---- the calls of next_call as events
one_byte : (b : ℕ) → number_of (b ∷ []) ≡ b
unfolding number_of
one_byte b = omega arith

receive_call : (h p : ℕ) → call_in (next_call h (woken p)) ≡ given (Event.Receive h)
unfolding fields_in
receive_call h p = rw (one_byte h)

no_count : number_of (0 ∷ 0 ∷ []) ≡ 0
unfolding number_of
no_count = refl

take_call : (h p : ℕ) → eqb p 2 ≡ false → call_in (release h p) ≡ given (Event.Take h 0)
unfolding fields_in
take_call h p e = rw (e, one_byte h, no_count)

free_call : (h : ℕ) → call_in (release h 2) ≡ given (Event.Free h)
unfolding fields_in
free_call h = rw (one_byte h)

-- ---- no reason applies
module _ (x : State) (G : GoodState x) (h : ℕ) (inside : h < x.line.lanes) where
  is_sound : sound x.line (length x.book) ≡ true
  is_sound = sound_of x.line (length x.book) G

  opened_line : eqb x.line.lanes 0 ≡ false
  opened_line = ne_eqb x.line.lanes 0 (λ z. omega arith)

  a_lane : leb x.line.lanes h ≡ false
  a_lane = lt-leb x.line.lanes h inside

  accepted_by : (e : Event) → some_pass (applying x (given e)) reasons ≡ false → (said_by (step_by next_lane x (given e)).answer).accepted ≡ true
  accepted_by e q = none_accepts next_lane x (given e) (none_applies x (given e) q)

  receive_goes : (p : Purpose) (v : Place) → phase_at x.line h ≡ Phase.Woken p v → (said_by (step_by next_lane x (given (Event.Receive h))).answer).accepted ≡ true
  receive_goes p v e = accepted_by (Event.Receive h) (rw (is_sound, opened_line, a_lane, e))

  low : (p : Purpose) (v : Place) → phase_at x.line h ≡ Phase.Holding p v → ltb most_pointer (v.0 + 0) ≡ false
  low p v e =
      let n = when_open x.line (length x.book) (omega arith) G.numbers in
      le-ltb most_pointer (v.0 + 0) (omega (arith, holding_value x.line G.facts h p v e, n.reach))

  onward_goes : (y : Phase) → phase_at x.line h ≡ y → has_turn y ≡ true → (said_to next_lane x (next_call h (status_of y))).accepted ≡ true
  onward_goes Phase.Idle e t = clash (sym t)
  onward_goes (Phase.Waiting p) e t = clash (sym t)
  onward_goes (Phase.Woken p v) e t = rw (receive_call h (number_for p)) (receive_goes p v e)
  onward_goes (Phase.Holding Purpose.SharedWrite v) e t = rw (take_call h 0 refl) (accepted_by (Event.Take h 0) (rw (is_sound, opened_line, a_lane, e)))
  onward_goes (Phase.Holding Purpose.SharedRead v) e t = rw (take_call h 1 refl) (accepted_by (Event.Take h 0) (rw (is_sound, opened_line, a_lane, e, low Purpose.SharedRead v e)))
  onward_goes (Phase.Holding Purpose.WholeBook v) e t = rw (free_call h) (accepted_by (Event.Free h) (rw (is_sound, opened_line, a_lane, e)))
  onward_goes (Phase.BusyWriting n k) e t = clash (sym t)
  onward_goes (Phase.BusyReading n k) e t = clash (sym t)
  onward_goes (Phase.Gathered n) e t = clash (sym t)

-- the one lane with the turn
pub record OnlyPhase (l : Line) (h : ℕ) : Type 0 where
  pub has : has_turn (phase_at l h) ≡ true
  pub only : (j : ℕ) → has_turn (phase_at l j) ≡ true → j ≡ h

pub only_turn : (l : Line) → Facts l → (i : ℕ) → is_waiting (phase_at l i) ≡ true → (h : ℕ) × OnlyPhase l h
only_turn l F i w =
    let r = turn_found l F (up_count l F i (waiting_up (phase_at l i) w)) in
    (r.0, record { has = r.1; only = λ j t. same_turn l F j r.0 t r.1 })

pub goes : (x : State) → GoodState x → (h : ℕ) → has_turn (phase_at x.line h) ≡ true → (said_to next_lane x (next_call h (status_of (phase_at x.line h)))).accepted ≡ true
goes x G h t = onward_goes x G h (up_inside x.line G.facts h (turn_up (phase_at x.line h) t)) (phase_at x.line h) refl t
