-- What an enter comes to, from a few numbers, and what it leaves. Tied to `call_event` by ordered_calls/Steps: enter_step_lem.
use Rattle.std.specs.Prelude.{ℕ, ◌+◌, ◌≤◌, Bool, true, false, cond, not, List, ◌≡◌, eqb, drop, Result, Ok, Err}
use Rattle.lists.specs.Lists.{all_pass}
use Rattle.limits.specs.Limits.{most_lanes}
use Rattle.view.specs.View.{fits, place}
use Rattle.line.specs.declared.Lane.{Lane}
use Rattle.line.specs.declared.Line.{Line}
use Rattle.line.specs.declared.Phase.{Phase}
use Rattle.line.specs.Line.{is_idle, on, phase_at}
use Rattle.lane_tests.specs.Rules.{counts_of}
use Rattle.steps.specs.Effects.{started}
use Rattle.event.specs.Refusal.{number_of}
use Rattle.event.specs.declared.Refusal.{Refusal}
use Rattle.steps.specs.State as State
use Rattle.steps.specs.State.{leaves, with_lanes, with_pointer}
use Rattle.steps.specs.declared.Answer.{Answer}
use Rattle.steps.specs.declared.Outcome.{Outcome}
use Rattle.refuse.specs.Refused.{refused_outcome}
use Rattle.ordered_calls.specs.declared.Entered.{Entered}

abbrev pub admitted : Phase → Bool → Bool → Bool → Result Entered Refusal
admitted x calm fitting last =
    cond (not calm) (Err Refusal.LaneNotIdle)
    (cond (not (is_idle x)) (Err Refusal.WrongPhase)
    (cond (not fitting) (Err Refusal.NoRoom)
    (cond last (Ok Entered.Complete) (Ok Entered.Gathered))))

-- an enter that is not refused
abbrev pub is_accepted : Result Entered Refusal → Bool
is_accepted (Err r) = false
is_accepted (Ok e) = true

-- the records of the ordered call with those of one more lane
abbrev pub total_with : Line → ℕ → ℕ
total_with l c = (counts_of l.lane).total + c

-- what an enter of lane i with c records comes to, by the counts of the lanes
abbrev pub enter_of : Line → ℕ → ℕ → Result Entered Refusal
enter_of l i c =
    admitted (phase_at l i) (eqb (counts_of l.lane).active (counts_of l.lane).gathered)
    (fits l.view l.capacity l.pointer (total_with l c))
    (eqb ((counts_of l.lane).gathered + 1) l.lanes)

-- the lanes past the first n, as many as a line can have, are idle
pub record IdlePast (n : ℕ) (lanes : List Lane) : Type 0 where
  pub few : n ≤ most_lanes
  pub idle : all_pass (on is_idle) (drop n lanes) ≡ true

-- all N start, from the pointer, which moves past their records
abbrev pub completed : Line → List Lane → ℕ → Outcome
completed l lanes total =
    record {
      line = with_pointer (with_lanes l (started l.pointer.0 lanes)) (place (l.pointer.0 + total));
      answer = Answer.Ordered l.pointer total;
    }

-- the outcome, with the lanes as they are once this one is in
abbrev pub settled : Line → List Lane → ℕ → Result Entered Refusal → Outcome
settled l lanes total (Err r) = refused_outcome l (number_of r)
settled l lanes total (Ok Entered.Gathered) = record { line = with_lanes l lanes; answer = Answer.Gathered }
settled l lanes total (Ok Entered.Complete) = completed l lanes total

-- an outcome with the book as it is
abbrev pub with_book : Outcome → List ℕ → State.Result
with_book o book = leaves o.answer o.line book
