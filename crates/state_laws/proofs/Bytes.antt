-- One call over any bytes at all: a call that is not accepted alters neither state nor book, no call alters a byte past the state, and bytes that are no line, or
-- an unsound one, get 1.
use Prim.Native.Nat.{ℕ, ◌+◌, ◌≤◌}
use mathlib.Core.Path.{◌≡◌, refl, ap, ◌∙◌}
use mathlib.Core.Bool.{Bool, true, false, cond}
use mathlib.Core.List.{List}
use native.Mathlib.Decide.{ℕ_discrete}
use native.Mathlib.Nat.{zero-add}
use native.Mathlib.Omega.{arith}
use lib.Dec.{ltb}
use lib.ListN.{drop, length}
use lib.Seq.{drop_at, sets, sets-eq}
use borrow.Author.Tests.{ltb-false, ltb-true}
use Rattle.lists.proofs.Tests.{and_left, and_right, by_test}
use Rattle.line.specs.Sound.{sound}
use Rattle.waitlist.specs.NextLane.{next_lane}
use Rattle.event.specs.Event.{call_of}
use Rattle.steps.specs.Answer.{said_by}
use Rattle.steps.specs.Meets.{state_of}
use Rattle.steps.specs.State.{State}
use Rattle.steps.specs.Step.{call_bytes, refuse, step_by}
use Rattle.line.proofs.Facts.{good_of}
use Rattle.steps.proofs.Cases.{steps}
use Rattle.steps.proofs.CheckingOrder.{refused_keeps}
use Rattle.steps.proofs.Keeps.{GoodState, keeps}
use Rattle.state_bytes.specs.StateBytes.{is_state, line_in, state_bytes, state_length}
use Rattle.answer_bytes.specs.AnswerBytes.{answer_length}
use Rattle.state_calls.specs.StateCalls.{Called, call_state, called_by, step_in}
use Rattle.state_calls.specs.Told.{sound_in}
use Rattle.state_calls.proofs.Meets.{called_step, short_answer, short_state}
use Rattle.state_bytes.proofs.Lengths.{line_shaped, state_length_lem}
use Rattle.state_laws.proofs.Calls.{shaped}

-- state and book are as they were
pub record Unaltered (called : Called) (state book : List ℕ) : Type 0 where
  pub state_same : called.state ≡ state
  pub book_same : called.book ≡ book

module _ (state book : List ℕ) (kind : ℕ) (body answer : List ℕ) where
  abbrev call : Called
  call = call_state state book kind body answer

  -- a step that is not accepted gives back the line and the book
  step_kept : (said_by (step_in state book kind body).answer).accepted ≡ false → (step_in state book kind body).after ≡ state_of (line_in state) book
  step_kept f =
      by_test (is_state state)
      (λ t. rw t (refused_keeps next_lane (state_of (line_in state) book) (call_of kind body) (rw t at f)))
      (λ t. rw t)

  by_status : (accepted : Bool) (number : ℕ) → (cond accepted 0 number ≡ 0 → ⊥) → accepted ≡ false
  by_status true number h = absurd (h refl)
  by_status false number h = refl

  refused_step : (call ≡ called_by state answer (step_in state book kind body)) → (call.status ≡ 0 → ⊥) → Unaltered call state book
  refused_step e h =
      let r = step_in state book kind body in
      let f : (said_by r.answer).accepted ≡ false = by_status (said_by r.answer).accepted (said_by r.answer).number (λ z. h (ap (λ (c : Called). c.status) e ∙ z)) in
      record {
        state_same = ap (λ (c : Called). c.state) e ∙ rw f;
        book_same = ap (λ (c : Called). c.book) e ∙ ap (λ (x : State). x.book) (step_kept f);
      }

  -- whatever the bytes and the lengths
  pub refused_unaltered : (call.status ≡ 0 → ⊥) → Unaltered call state book
  refused_unaltered h =
      by_test (ltb (length state) state_length)
      (λ s. let e = short_state state book kind body answer (ltb-true (length state) state_length s) in
      record { state_same = ap (λ (c : Called). c.state) e; book_same = ap (λ (c : Called). c.book) e })
      (λ s. by_test (ltb (length answer) answer_length)
      (λ a. let e = short_answer state book kind body answer (ltb-false (length state) state_length s) (ltb-true (length answer) answer_length a) in
      record { state_same = ap (λ (c : Called). c.state) e; book_same = ap (λ (c : Called). c.book) e })
      (λ a. refused_step (called_step state book kind body answer (ltb-false (length state) state_length s) (ltb-false (length answer) answer_length a)) h))

  -- "state bytes that are no line, or an unsound one, get 1"
  unsound_step : sound_in state (length book) ≡ false → step_in state book kind body ≡ refuse 1 (state_of (line_in state) book)
  unfolding step_by
  unsound_step f = by_test (is_state state) (λ t. let u : sound (line_in state) (length book) ≡ false = rw t at f in rw (t, u)) (λ t. rw t)

  pub unsound_one : state_length ≤ length state → answer_length ≤ length answer → sound_in state (length book) ≡ false → call.status ≡ 1
  unsound_one s a f = ap (λ (c : Called). c.status) (called_step state book kind body answer s a) ∙ rw (unsound_step f)

  -- an accepted call was made on a sound line
  accepted_sound : call.status ≡ 0 → state_length ≤ length state → answer_length ≤ length answer → sound_in state (length book) ≡ true
  accepted_sound z s a =
      by_test (sound_in state (length book)) (λ t. t) (λ f. let one = unsound_one s a f in absurd (omega arith))

  accepted_past : sound_in state (length book) ≡ true → state_length ≤ length state → answer_length ≤ length answer → drop state_length call.state ≡ drop state_length state
  accepted_past t s a =
      let a-line : is_state state ≡ true = and_left (is_state state) _ t in
      let x = state_of (line_in state) book in
      let G : GoodState x = good_of (line_in state) (length book) (line_shaped state s) (and_right (is_state state) _ t) in
      let r = call_bytes x kind body in
      let after : GoodState r.after = keeps G (steps next_lane x (call_of kind body)) in
      let b = state_bytes r.after.line in
      let whole : length b ≡ state_length = state_length_lem r.after.line (shaped r.after.line (length r.after.book) after) in
      let fits : 0 + length b ≤ length state = omega arith in
      let e : call ≡ called_by state answer r = called_step state book kind body answer s a ∙ rw a-line in
      let stored : drop state_length (sets state 0 b) ≡ drop state_length state =
      ap (drop state_length) (sets-eq b state 0 fits) ∙ drop_at b (drop (0 + length b) state) state_length whole ∙ ap (λ (n : ℕ). drop n state) (zero-add (length b) ∙ whole) in
      ap (λ (c : Called). drop state_length c.state) e ∙ by_test (said_by r.answer).accepted (λ y. rw y stored) (λ n. rw n)

  -- "Bytes past the state's length are not touched"
  pub past_kept : state_length ≤ length state → answer_length ≤ length answer → drop state_length call.state ≡ drop state_length state
  past_kept s a = elim (ℕ_discrete call.status 0) [ yes z ↦ accepted_past (accepted_sound z s a) s a | no h ↦ ap (drop state_length) (refused_unaltered h).state_same ]
