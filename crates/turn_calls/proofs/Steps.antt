-- Each change of a call of the waitlist is the step of document 01.
use Prim.Native.Nat.{ℕ, ◌+◌, ◌≤◌}
use mathlib.Core.Path.{◌≡◌, refl, ◌∙◌, subst, sym}
use mathlib.Core.Bool.{true, cond, not, ◌&&◌}
use mathlib.Core.List.{List}
use lib.Dec.{eqb, ltb}
use lib.ListN.{length, set}
use lib.Seq.{set-get_or}
use Rattle.lists.proofs.Tests.{by_test}
use Rattle.lists.specs.Lists.{all_pass, some_pass}
use Rattle.view.specs.View.{fits}
use Rattle.view.specs.declared.Place.{Place}
use Rattle.line.specs.declared.Line.{Line}
use Rattle.line.specs.declared.Phase.{Phase}
use Rattle.line.specs.declared.Purpose.{Purpose}
use Rattle.limits.specs.Limits.{most_lanes, most_pointer}
use Rattle.line.specs.Line.{holds_shared, holds_whole, is_gathered, is_idle, is_shared_read, is_shared_write, is_waiting, is_woken, on, phase_at, place_in, purpose_in, is_holding}
use Rattle.line.specs.Sound.{sound}
use Rattle.line.proofs.Phases.{holding_is, numbered}
use Rattle.waitlist.specs.NextLane.{next_lane}
use Rattle.event.specs.declared.Event.{Event}
use Rattle.steps.specs.Effects.{purpose_of, reading, receive_step, take_step, want_step, writing}
use Rattle.steps.specs.Meets.{state_of}
use Rattle.steps.specs.State.{Result, State}
use Rattle.steps.specs.Step.{call_event, refuse}
use Rattle.steps.proofs.Chains.{free_chain, receive_chain, take_chain, want_chain}
use Rattle.changes.specs.Change.{lane_tested, changed, entry_of, refused_change, seen_of}
use Rattle.changes.specs.declared.Seen.{Seen}
use Rattle.changes.proofs.Steps.{Gives, either, guarded, lane_step, refused_step, unchanged}
use Rattle.turn_calls.specs.Turns.{free_change, freed_change, holds_now, receive_change, received_by, take_change, taken_change, taken_by, taken_from, waits, want_change, wanted}

-- the steps past the tests of the lane, by the lane's phase
abbrev receive_rest : State → ℕ → Phase → Result
receive_rest x i p = cond (not (is_woken p) && not (is_waiting p)) (refuse 13 x) (cond (is_waiting p) (refuse 14 x) (receive_step x i p))

abbrev take_rest : State → ℕ → ℕ → Phase → Result
take_rest x i c p =
    cond (not (holds_shared p)) (refuse 13 x)
    (cond (is_shared_read (purpose_in p) && ltb most_pointer ((place_in p).0 + c)) (refuse 15 x)
    (cond (is_shared_write (purpose_in p) && not (fits x.line.view x.line.capacity (place_in p) c)) (refuse 16 x) (take_step next_lane x i c p)))

module _ (l : Line) (book : List ℕ) (lanes_fit : l.lanes ≤ most_lanes) (ok : sound l (length book) ≡ true) (i : ℕ) where
  abbrev seen : Seen
  seen = seen_of l (entry_of i)

  abbrev own : Seen
  own = seen_of l i

  -- ---- 02
  raised : (p : Purpose) → Gives l (unchanged book) i (want_step (state_of l book) i p) (wanted own (all_pass (eqb 0) (set l.flag i 0)) p)
  raised p = either l book (unchanged book) (λ k. refl) i (all_pass (eqb 0) (set l.flag i 0)) {c = holds_now own p} {d = waits own p} (record { is = refl }) (record { is = refl })

  pub want_step_lem : (purpose : ℕ) → call_event (state_of l book) (Event.Want i purpose) ≡ changed l (entry_of i) (lane_tested seen i (want_change seen l.flag i purpose)) book
  want_step_lem purpose =
      want_chain next_lane (state_of l book) i purpose
      ∙ (lane_step l book (unchanged book) (λ k. refl) lanes_fit ok i (λ (j : ℕ). want_change (seen_of l j) l.flag i purpose) _
      (λ h. guarded l book (unchanged book) (λ k. refl) i 9 (ltb 2 purpose)
      (guarded l book (unchanged book) (λ k. refl) i 12 (some_pass (on is_gathered) l.lane)
      (guarded l book (unchanged book) (λ k. refl) i 13 (not (is_idle (phase_at l i))) (raised (purpose_of purpose)))))
      ).is

  -- ---- 03
  refused_13 : Gives l (unchanged book) i (refuse 13 (state_of l book)) (refused_change own 13)
  refused_13 = refused_step l book (unchanged book) (λ k. refl) i 13

  receive_by : (x : Phase) → Gives l (unchanged book) i (receive_rest (state_of l book) i x) (received_by own x)
  receive_by x =
      by_test (is_woken x) (λ w. rw (numbered x 2 w) (record { is = rw (set-get_or l.flag i 0) }))
      (λ w. by_test (is_waiting x) (λ a. rw (w, a) (refused_step l book (unchanged book) (λ k. refl) i 14)) (λ a. rw (w, a) refused_13))

  pub receive_step_lem : call_event (state_of l book) (Event.Receive i) ≡ changed l (entry_of i) (lane_tested seen i (receive_change seen)) book
  receive_step_lem =
      receive_chain next_lane (state_of l book) i
      ∙ (lane_step l book (unchanged book) (λ k. refl) lanes_fit ok i (λ (j : ℕ). receive_change (seen_of l j)) _ (λ h. receive_by (phase_at l i))).is

  -- ---- 04
  module _ (c : ℕ) where
    take_held : (q : Purpose) (v : Place) → Gives l (unchanged book) i (take_rest (state_of l book) i c (Phase.Holding q v)) (taken_by own (fits l.view l.capacity v c) l.flag i q v c)
    take_held Purpose.SharedWrite v = guarded l book (unchanged book) (λ k. refl) i 16 (not (fits l.view l.capacity v c)) {c = taken_change own l.flag i v c (writing c v)} (record { is = refl })
    take_held Purpose.SharedRead v = guarded l book (unchanged book) (λ k. refl) i 15 (ltb most_pointer (v.0 + c)) {c = taken_change own l.flag i v c (reading c v)} (record { is = refl })
    take_held Purpose.WholeBook v = refused_13

    take_by : (x : Phase) → Gives l (unchanged book) i (take_rest (state_of l book) i c x) (taken_from own (fits l.view l.capacity (place_in x) c) l.flag i c x)
    take_by x =
        by_test (is_holding x)
        (λ h. subst (λ (y : Phase). Gives l (unchanged book) i (take_rest (state_of l book) i c y) (taken_from own (fits l.view l.capacity (place_in y) c) l.flag i c y)) (sym (holding_is x h)) (take_held (purpose_in x) (place_in x)))
        (λ h. rw h refused_13)

    pub take_step_lem : call_event (state_of l book) (Event.Take i c) ≡ changed l (entry_of i) (lane_tested seen i (take_change seen l.view l.flag i c)) book
    take_step_lem =
        take_chain next_lane (state_of l book) i c
        ∙ (lane_step l book (unchanged book) (λ k. refl) lanes_fit ok i (λ (j : ℕ). take_change (seen_of l j) l.view l.flag i c) _ (λ h. take_by (phase_at l i))).is

  -- ---- 09
  pub free_step : call_event (state_of l book) (Event.Free i) ≡ changed l (entry_of i) (lane_tested seen i (free_change seen l.flag i)) book
  free_step =
      free_chain next_lane (state_of l book) i
      ∙ (lane_step l book (unchanged book) (λ k. refl) lanes_fit ok i (λ (j : ℕ). free_change (seen_of l j) l.flag i) _
      (λ h. guarded l book (unchanged book) (λ k. refl) i 13 (not (holds_whole (phase_at l i))) {c = freed_change own l.flag i} (record { is = refl }))
      ).is
