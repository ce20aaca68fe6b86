-- The step of an enter by a lane of a sound line, from the counts of its lanes, and the bounds that keep its sums in range.
use Rattle.std.specs.Prelude.{Result, Ok, Err}
use Prim.Native.Nat.{ℕ, ◌+◌, ◌≤◌, ◌<◌}
use mathlib.Core.Path.{◌≡◌, refl, sym, ap, ◌∙◌}
use mathlib.Core.Bool.{Bool, true, false, cond, not}
use mathlib.Core.List.{List}
use native.Mathlib.Omega.{arith}
use lib.ListN.{drop, get_or, length, set}
use lib.Seq.{drop-set-lt, get_or-drop}
use lib.Dec.{eqb}
use Rattle.lists.specs.Lists.{all_pass, bit, count_pass}
use Rattle.lists.proofs.Counts.{all_from}
use Rattle.lists.proofs.Tests.{by_test, clash, not_zero}
use borrow.Author.Tests.{eqb-true}
use Rattle.view.specs.View.{fits}
use Rattle.view.proofs.Laws.{fits_low}
use Rattle.limits.specs.Limits.{most_lanes, most_pointer}
use Rattle.line.specs.declared.Lane.{Lane}
use Rattle.line.specs.declared.Line.{Line}
use Rattle.line.specs.declared.Phase.{Phase}
use Rattle.line.specs.Line.{Shaped, count_in, idle_lane, is_gathered, is_idle, is_idle_or_gathered, on, phase_at}
use Rattle.line.specs.Sound.{gathered_total, sound}
use Rattle.line.proofs.Phases.{idle_is}
use Rattle.line.proofs.Facts.{OpenNumbers, good_of, when_open}
use Rattle.lane_tests.specs.Rules.{counts_of}
use Rattle.lane_tests.proofs.Counts.{calm_counts, gathered_set, total_none, total_set}
use Rattle.waitlist.specs.NextLane.{next_lane}
use Rattle.event.specs.Refusal.{number_of}
use Rattle.event.specs.declared.Event.{Event}
use Rattle.event.specs.declared.Refusal.{Refusal}
use Rattle.steps.specs.Effects.{enter_step, entered}
use Rattle.steps.specs.Meets.{state_of}
use Rattle.steps.specs.State.{leaves, with_phase}
use Rattle.steps.specs.Step.{call_event, refuse}
use Rattle.steps.specs.declared.Answer.{Answer}
use Rattle.steps.proofs.Chains.{enter_chain}
use Rattle.refuse.proofs.First.{at_lane}
use Rattle.ordered_calls.specs.declared.Entered.{Entered}
use Rattle.ordered_calls.specs.Settled.{IdlePast, is_accepted, admitted, completed, enter_of, settled, total_with, with_book}

fitting_passed : (fitting last : Bool) → is_accepted (cond (not fitting) (Err Refusal.NoRoom) (cond last (Ok Entered.Complete) (Ok Entered.Gathered))) ≡ true → fitting ≡ true
fitting_passed true last e = refl
fitting_passed false last e = clash (sym e)

refused_not : {X : Type 0} (r : Refusal) → is_accepted (Err r) ≡ true → X
refused_not r e = clash (sym e)

abbrev pub Tests : Phase → Bool → Bool → Type 0
Tests x calm fitting = (calm ≡ true) × (is_idle x ≡ true) × (fitting ≡ true)

pub tests_passed : (x : Phase) (calm fitting last : Bool) → is_accepted (admitted x calm fitting last) ≡ true → Tests x calm fitting
tests_passed x false fitting last e = refused_not Refusal.LaneNotIdle e
tests_passed x true fitting last e =
    by_test (is_idle x)
    (λ d. let e' : is_accepted (cond (not fitting) (Err Refusal.NoRoom) (cond last (Ok Entered.Complete) (Ok Entered.Gathered))) ≡ true = rw d at e in (refl, d, fitting_passed fitting last e'))
    (λ d. refused_not Refusal.WrongPhase (rw d at e))

module _ (l : Line) (book : List ℕ) (shape : Shaped l) (ok : sound l (length book) ≡ true) (i : ℕ) (h : i < l.lanes) where
  open_line : OpenNumbers l (length book)
  open_line = let G = good_of l (length book) shape ok in when_open l (length book) (omega arith) G.numbers

  -- the lane has an entry
  pub index_in : i < most_lanes
  index_in = omega (arith, open_line.lanes_fit)

  pub index_within : i < length l.lane
  index_within = omega (arith, open_line.lanes_fit, shape.lanes_length)

  -- past N all lanes are idle, also once this one has another phase
  past_at : (j : ℕ) → j < length (drop l.lanes l.lane) → is_idle (get_or (drop l.lanes l.lane) j idle_lane).phase ≡ true
  past_at j k = rw (get_or-drop l.lanes l.lane j idle_lane, (good_of l (length book) shape ok).facts.base.past (l.lanes + j) (omega arith))

  pub past_idle : (y : Lane) → IdlePast l.lanes (set l.lane i y)
  past_idle y =
      record {
        few = open_line.lanes_fit;
        idle = rw (drop-set-lt l.lanes l.lane i y h) (all_from (on is_idle) (drop l.lanes l.lane) idle_lane past_at);
      }

  -- the records gathered so far end in range, so that with those of one more lane they are far from any bound of their type
  pub total_low : l.pointer.0 + (counts_of l.lane).total ≤ most_pointer
  total_low =
      by_test (eqb (counts_of l.lane).gathered 0)
      (λ t. let none = total_none l.lane (eqb-true _ 0 t) in omega (arith, open_line.reach))
      (λ t.
      let some = not_zero (counts_of l.lane).gathered t in
      let room = ((good_of l (length book) shape ok).facts.gathering some).room in
      fits_low l.capacity l.view open_line.view shape.blocks_length l.pointer.0 (gathered_total l.lane) open_line.reach open_line.most room)

  module _ (c : ℕ) where
    -- ---- the lanes with this one in, where it was idle
    module _ (d : is_idle (phase_at l i) ≡ true) where
      total_is : gathered_total (entered l i c) ≡ total_with l c
      total_is =
          let none = ap count_in (idle_is (phase_at l i) d) in
          omega (arith, none, total_set l.lane i index_within (Phase.Gathered c))

      gathered_is : count_pass (on is_gathered) (entered l i c) ≡ (counts_of l.lane).gathered + 1
      gathered_is =
          let none = ap (λ (x : Phase). bit (is_gathered x)) (idle_is (phase_at l i) d) in
          omega (arith, none, gathered_set l.lane i index_within (Phase.Gathered c))

    tests : cond (not (all_pass (on is_idle_or_gathered) l.lane)) (refuse 11 (state_of l book))
        (cond (not (is_idle (phase_at l i))) (refuse 13 (state_of l book))
        (cond (not (fits l.view l.capacity l.pointer (gathered_total (entered l i c)))) (refuse 16 (state_of l book)) (enter_step (state_of l book) i c)))
        ≡ with_book (settled l (entered l i c) (total_with l c) (enter_of l i c)) book
    tests =
        rw (calm_counts l.lane)
        (by_test (eqb (counts_of l.lane).active (counts_of l.lane).gathered)
        (λ r. rw r
        (by_test (is_idle (phase_at l i))
        (λ d. rw (d, total_is d, gathered_is d)
        (by_test (fits l.view l.capacity l.pointer (total_with l c))
        (λ f. rw f (by_test (eqb ((counts_of l.lane).gathered + 1) l.lanes) (λ t. rw t) (λ t. rw t)))
        (λ f. rw f)))
        (λ d. rw d)))
        (λ r. rw r))

    -- the step, by what the enter comes to
    pub enter_step_lem : call_event (state_of l book) (Event.Enter i c) ≡ with_book (settled l (entered l i c) (total_with l c) (enter_of l i c)) book
    enter_step_lem = enter_chain next_lane (state_of l book) i c ∙ at_lane l book ok i _ h ∙ tests

    -- the same, case by case
    pub enter_refused : (r : Refusal) → enter_of l i c ≡ Err r → call_event (state_of l book) (Event.Enter i c) ≡ refuse (number_of r) (state_of l book)
    enter_refused r e = enter_step_lem ∙ ap (λ (x : Result Entered Refusal). with_book (settled l (entered l i c) (total_with l c) x) book) e

    pub enter_gathered : enter_of l i c ≡ Ok Entered.Gathered
        → call_event (state_of l book) (Event.Enter i c) ≡ leaves Answer.Gathered (with_phase l i (Phase.Gathered c)) book
    enter_gathered e = enter_step_lem ∙ ap (λ (x : Result Entered Refusal). with_book (settled l (entered l i c) (total_with l c) x) book) e

    pub enter_complete : enter_of l i c ≡ Ok Entered.Complete
        → call_event (state_of l book) (Event.Enter i c) ≡ with_book (completed l (entered l i c) (total_with l c)) book
    enter_complete e = enter_step_lem ∙ ap (λ (x : Result Entered Refusal). with_book (settled l (entered l i c) (total_with l c) x) book) e

    -- ---- a lane that gets in was idle, as no lane was active but for the gathered ones, and the pointer after the whole ordered call is in range
    module _ (e : is_accepted (enter_of l i c) ≡ true) where
      passed : Tests (phase_at l i) (eqb (counts_of l.lane).active (counts_of l.lane).gathered) (fits l.view l.capacity l.pointer (total_with l c))
      passed = tests_passed (phase_at l i) _ _ (eqb ((counts_of l.lane).gathered + 1) l.lanes) e

      pub enter_calm : (counts_of l.lane).active ≡ (counts_of l.lane).gathered
      enter_calm = eqb-true _ _ passed.0

      pub enter_idle : phase_at l i ≡ Phase.Idle
      enter_idle = idle_is (phase_at l i) passed.1

      pub enter_reach : l.pointer.0 + total_with l c ≤ most_pointer
      enter_reach =
          fits_low l.capacity l.view open_line.view shape.blocks_length l.pointer.0 (total_with l c) open_line.reach open_line.most passed.2
