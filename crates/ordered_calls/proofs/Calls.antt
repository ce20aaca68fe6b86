-- The steps of an entry from the values that the function computes.
use Rattle.std.specs.Prelude.{Result, Ok}
use Prim.Native.Nat.{ℕ, ◌+◌, ◌≤◌, ◌<◌}
use mathlib.Core.Path.{◌≡◌, refl, sym, ap, ◌∙◌}
use mathlib.Core.Bool.{Bool, true}
use mathlib.Core.List.{List}
use native.Mathlib.Omega.{arith}
use lib.ListN.{length}
use lib.Dec.{eqb, leb}
use borrow.Author.Tests.{eq-eqb, eqb-true, leb-true}
use Rattle.lists.proofs.Tests.{by_test, clash}
use Rattle.changes.specs.Change.{missing_lane}
use Rattle.view.specs.View.{fits}
use Rattle.limits.specs.Limits.{most_lanes, most_pointer}
use Rattle.lane_tests.specs.declared.tallies.LaneCounts.{LaneCounts}
use Rattle.lane_tests.specs.Rules.{counts_of}
use Rattle.lane_tests.proofs.Counts.{gathered_most}
use Rattle.line.specs.Line.{Shaped, phase_at}
use Rattle.line.specs.declared.Line.{Line}
use Rattle.line.specs.Sound.{sound}
use Rattle.waitlist.specs.NextLane.{next_lane}
use Rattle.event.specs.declared.Event.{Event}
use Rattle.event.specs.declared.Refusal.{Refusal}
use Rattle.steps.specs.Effects.{entered}
use Rattle.steps.specs.Meets.{Meets, state_of}
use Rattle.steps.specs.Step.{call_event}
use Rattle.steps.specs.declared.Outcome.{Outcome}
use Rattle.steps.proofs.Chains.{enter_chain}
use Rattle.refuse.specs.Refused.{refused_outcome}
use Rattle.refuse.proofs.First.{meets_as, refused_4, refused_8}
use Rattle.ordered_calls.specs.declared.Entered.{Entered}
use Rattle.ordered_calls.specs.Settled.{is_accepted, admitted, enter_of, settled, with_book}
use Rattle.ordered_calls.proofs.Steps.{enter_reach, enter_step_lem, total_low}

meets_with : (book : List ℕ) {o p : Outcome} → o ≡ p → Meets (with_book p book) o book
meets_with book e = record { answer = ap (λ (x : Outcome). x.answer) e; line = ap (λ (x : Outcome). x.line) e; book = refl }

module _ (l : Line) (book : List ℕ) (ok : sound l (length book) ≡ true) (i c : ℕ) where
  -- a line that is not open, or has no lane i
  pub missing_refused : (k : ℕ) (o : Outcome) → 0 < k → k ≡ missing_lane l.lanes i → o ≡ refused_outcome l k → Meets (call_event (state_of l book) (Event.Enter i c)) o book
  missing_refused k o some is e =
      by_test (eqb l.lanes 0)
      (λ z. let four : k ≡ 4 = rw z at is in refused_4 l book ok _ (enter_chain next_lane (state_of l book) i c) (eqb-true l.lanes 0 z) (rw four at e))
      (λ n. by_test (leb l.lanes i)
      (λ past. let eight : k ≡ 8 = rw (n, past) at is in
      refused_8 l book ok i _ (enter_chain next_lane (state_of l book) i c) (λ z. let t = eq-eqb l.lanes 0 z in clash (rw t at n)) (leb-true l.lanes i past) (rw eight at e))
      (λ below. let none : k ≡ 0 = rw (n, below) at is in absurd (omega arith)))

  -- `counts` and `fitting` are what the functions that count the lanes and test the room give
  module _ (shape : Shaped l) (h : i < l.lanes) (counts : LaneCounts) (counted : counts ≡ counts_of l.lane) where
    -- the sum of the records does not wrap
    pub total_in : l.pointer.0 + counts.total ≤ most_pointer
    total_in = rw counted (total_low l book shape ok i h)

    pub gathered_in : counts.gathered ≤ most_lanes
    gathered_in = rw counted (omega (arith, gathered_most l.lane, shape.lanes_length))

    module _ (fitting : Bool) (fit : fitting ≡ fits l.view l.capacity l.pointer (counts.total + c))
        (came : Result Entered Refusal) (asked : came ≡ admitted (phase_at l i) (eqb counts.active counts.gathered) fitting (eqb (counts.gathered + 1) l.lanes)) where
      abbrev came_of : LaneCounts → Bool → Result Entered Refusal
      came_of n f = admitted (phase_at l i) (eqb n.active n.gathered) f (eqb (n.gathered + 1) l.lanes)

      came_is : came ≡ enter_of l i c
      came_is =
          asked ∙ ap (came_of counts) fit
          ∙ ap (λ (n : LaneCounts). came_of n (fits l.view l.capacity l.pointer (n.total + c))) counted

      -- the pointer after the whole ordered call is in range
      pub reach : came ≡ Ok Entered.Complete → l.pointer.0 + (counts.total + c) ≤ most_pointer
      reach e = rw counted (enter_reach l book shape ok i h c (ap is_accepted (sym came_is ∙ e)))

      pub enters : (o : Outcome) → o ≡ settled l (entered l i c) (counts.total + c) came → Meets (call_event (state_of l book) (Event.Enter i c)) o book
      enters o e =
          meets_as (enter_step_lem l book shape ok i h c)
          (meets_with book (e ∙ ap (λ (n : LaneCounts). settled l (entered l i c) (n.total + c) came) counted ∙ ap (settled l (entered l i c) ((counts_of l.lane).total + c)) came_is))
