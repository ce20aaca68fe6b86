-- One call over the state bytes of a sound line is the step, with its answer.
use Prim.Native.Nat.{ℕ, ◌+◌, ◌≤◌}
use mathlib.Core.Path.{◌≡◌, sym, ap, ◌∙◌}
use mathlib.Core.List.{List, ◌++◌}
use native.Mathlib.Nat.{zero-add}
use native.Mathlib.Omega.{arith}
use lib.ListN.{drop, length, length-append, length-map}
use lib.Seq.{drop_at, sets, sets-eq}
use Rattle.lists.proofs.Tests.{by_test}
use Rattle.line.specs.Line.{Shaped, flag_for, on}
use Rattle.line.specs.declared.Line.{Line}
use Rattle.line.proofs.Facts.{Good}
use Rattle.waitlist.specs.NextLane.{next_lane}
use Rattle.event.specs.Event.{call_of}
use Rattle.steps.specs.Answer.{said_by}
use Rattle.steps.specs.State.{Result, State}
use Rattle.steps.specs.Step.{call_bytes}
use Rattle.steps.proofs.Cases.{steps}
use Rattle.steps.proofs.CheckingOrder.{refused_keeps}
use Rattle.steps.proofs.Keeps.{GoodState, keeps}
use Rattle.state_bytes.specs.StateBytes.{state_bytes, state_length}
use Rattle.state_bytes.proofs.Lengths.{state_length_lem}
use Rattle.state_bytes.proofs.RoundTrip.{state_read, state_told}
use Rattle.answer_bytes.specs.AnswerBytes.{answer_bytes, answer_length, said_in}
use Rattle.answer_bytes.proofs.RoundTrip.{answer_length_lem, said_there}
use Rattle.state_calls.specs.StateCalls.{Called, call_state, called_by}
use Rattle.state_calls.proofs.Meets.{called_step}

-- bytes stored from the start over as many
stored_over : (old new more : List ℕ) → length old ≡ length new → sets (old ++ more) 0 new ≡ new ++ more
stored_over old new more h =
    let room : 0 + length new ≤ length (old ++ more) = omega (arith, length-append old more) in
    rw (zero-add (length new), drop_at old more (length new) h) at (sets-eq new (old ++ more) 0 room)

-- a sound line has arrays of their lengths
pub shaped : (l : Line) (buffer : ℕ) → Good l buffer → Shaped l
shaped l buffer G =
    record {
      lanes_length = G.facts.base.long;
      flags_length = ap length G.facts.base.flags ∙ length-map l.lane (on flag_for) ∙ G.facts.base.long;
      blocks_length = G.facts.base.blocks;
    }

-- ---- on the state of a sound line
module _ (x : State) (G : GoodState x) (kind : ℕ) (body more answer : List ℕ) (room : answer_length ≤ length answer) where
  abbrev step_of : Result
  step_of = call_bytes x kind body

  abbrev called : Called
  called = call_state (state_bytes x.line ++ more) x.book kind body answer

  shape : Shaped x.line
  shape = shaped x.line (length x.book) G

  after_good : GoodState step_of.after
  after_good = keeps G (steps next_lane x (call_of kind body))

  -- the call is the step
  is_step : called ≡ called_by (state_bytes x.line ++ more) answer step_of
  is_step =
      let long : state_length ≤ length (state_bytes x.line ++ more) = omega (arith, length-append (state_bytes x.line) more, state_length_lem x.line shape) in
      called_step (state_bytes x.line ++ more) x.book kind body answer long room
      ∙ rw (state_told x.line shape more, state_read x.line shape more)

  pub state_after : called.state ≡ state_bytes step_of.after.line ++ more
  state_after =
      ap (λ (c : Called). c.state) is_step
      ∙ by_test (said_by step_of.answer).accepted
      (λ t. rw t
      (stored_over (state_bytes x.line) (state_bytes step_of.after.line) more
      (state_length_lem x.line shape ∙ sym (state_length_lem step_of.after.line (shaped step_of.after.line (length step_of.after.book) after_good)))))
      (λ f. rw f (ap (λ (y : State). state_bytes y.line ++ more) (sym (refused_keeps next_lane x (call_of kind body) f))))

  pub book_after : called.book ≡ step_of.after.book
  book_after = ap (λ (c : Called). c.book) is_step

  pub answer_after : called.answer ≡ sets answer 0 (answer_bytes step_of.answer)
  answer_after = ap (λ (c : Called). c.answer) is_step

  -- what the answer's bytes say is what the answer says
  pub said_after : said_in called.answer ≡ said_by step_of.answer
  said_after =
      let a = answer_bytes step_of.answer in
      let fits : 0 + length a ≤ length answer = omega (arith, answer_length_lem step_of.answer) in
      ap (λ (bytes : List ℕ). said_in bytes) (answer_after ∙ sets-eq a answer 0 fits) ∙ said_there step_of.answer (drop (0 + length a) answer)
