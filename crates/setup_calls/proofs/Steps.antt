-- The steps of open, view and seek on a sound line, by the number that refuses each.
use Prim.Native.Nat.{ℕ, zero, suc}
use mathlib.Core.Path.{◌≡◌, refl, ap, ◌∙◌}
use mathlib.Core.Bool.{Bool, true, false, cond, not}
use mathlib.Core.List.{List}
use lib.ListN.{length}
use lib.IntN.{ℤ, pos, ◌+ℤ◌}
use lib.Dec.{eqb, ltb}
use Rattle.lists.specs.Lists.{all_pass}
use Rattle.view.specs.View.{end_of_book, view_ok}
use Rattle.line.specs.declared.Line.{Line}
use Rattle.line.specs.Line.{is_idle, on}
use Rattle.line.specs.Sound.{sound}
use Rattle.waitlist.specs.NextLane.{next_lane}
use Rattle.view.specs.declared.Block.{Block}
use Rattle.event.specs.declared.Event.{Event}
use Rattle.steps.specs.Effects.{open_step, seek_base, seek_step, seek_target, view_of, view_step}
use Rattle.steps.specs.Meets.{state_of}
use Rattle.steps.specs.Refusals.{is_outside}
use Rattle.steps.specs.State.{Result, State}
use Rattle.steps.specs.Step.{call_event, refuse}
use Rattle.steps.proofs.Chains.{open_chain, seek_chain, view_chain}
use Rattle.refuse.proofs.First.{when_sound}
use Rattle.setup_calls.specs.Setup.{base_of, capacity_test, lanes_test, open_refusal, seek_refusal, target_of, view_refusal}

-- a step that a number refuses, unless it is 0
unfoldable pub or_refused : ℕ → State → Result → Result
or_refused zero x r = r
or_refused (suc k) x r = refuse (suc k) x

pub refused_by : (k : ℕ) (x : State) (r : Result) → (k ≡ 0 → ⊥) → or_refused k x r ≡ refuse k x
unfolding or_refused
refused_by zero x r n = absurd (n refl)
refused_by (suc k) x r n = refl

pub none_refuses : (k : ℕ) (x : State) (r : Result) → k ≡ 0 → or_refused k x r ≡ r
unfolding or_refused
none_refuses k x r z = rw z

-- ---- a chain of tests, as the number of the first that applies
module _ (x : State) (r : Result) where
  two_tests : (a b : Bool) (i j : ℕ) → cond a (refuse (suc i) x) (cond b (refuse (suc j) x) r) ≡ or_refused (cond a (suc i) (cond b (suc j) 0)) x r
  unfolding or_refused
  two_tests true b i j = refl
  two_tests false true i j = refl
  two_tests false false i j = refl

  three_tests : (a b c : Bool) (i j k : ℕ)
      → cond a (refuse (suc i) x) (cond b (refuse (suc j) x) (cond c (refuse (suc k) x) r)) ≡ or_refused (cond a (suc i) (cond b (suc j) (cond c (suc k) 0))) x r
  unfolding or_refused
  three_tests true b c i j k = refl
  three_tests false b c i j k = two_tests b c j k

  four_tests : (a b c d : Bool) (i j k m : ℕ)
      → cond a (refuse (suc i) x) (cond b (refuse (suc j) x) (cond c (refuse (suc k) x) (cond d (refuse (suc m) x) r)))
      ≡ or_refused (cond a (suc i) (cond b (suc j) (cond c (suc k) (cond d (suc m) 0)))) x r
  unfolding or_refused
  four_tests true b c d i j k m = refl
  four_tests false b c d i j k m = three_tests b c d j k m

base_is : (l : Line) (whence : ℕ) → (base_of whence l.pointer (end_of_book l.view l.size)).0 ≡ seek_base l whence
base_is l zero = refl
base_is l (suc zero) = refl
base_is l (suc (suc k)) = refl

pub target_is : (l : Line) (whence : ℕ) (offset : ℤ) → target_of l.size l.pointer l.view whence offset ≡ seek_target l whence offset
target_is l whence offset = ap (λ (k : ℕ). pos k +ℤ offset) (base_is l whence)

module _ (l : Line) (book : List ℕ) (ok : sound l (length book) ≡ true) where
  -- ---- 01
  pub open_step_lem : (lanes capacity : ℕ)
      → call_event (state_of l book) (Event.Open lanes capacity)
      ≡ or_refused (open_refusal l.lanes lanes capacity (length book)) (state_of l book) (open_step (state_of l book) lanes capacity)
  open_step_lem lanes capacity =
      open_chain next_lane (state_of l book) lanes capacity ∙ when_sound l book ok _ ∙ three_tests (state_of l book) (open_step (state_of l book) lanes capacity)
      (not (eqb l.lanes 0)) (not (lanes_test lanes)) (not (capacity_test capacity (length book))) 4 5 6

  -- ---- 0B
  pub view_step_lem : (displacement extent used : ℕ) (blocks : List Block)
      → call_event (state_of l book) (Event.View displacement extent used blocks)
      ≡ or_refused (view_refusal l.lanes l.capacity (view_of displacement extent used blocks) (all_pass (on is_idle) l.lane)) (state_of l book)
      (view_step (state_of l book) (view_of displacement extent used blocks))
  view_step_lem displacement extent used blocks =
      view_chain next_lane (state_of l book) displacement extent used blocks ∙ when_sound l book ok _
      ∙ three_tests (state_of l book) (view_step (state_of l book) (view_of displacement extent used blocks))
      (eqb l.lanes 0) (not (view_ok l.capacity (view_of displacement extent used blocks))) (not (all_pass (on is_idle) l.lane)) 3 9 10

  -- ---- 0C
  pub seek_step_lem : (whence : ℕ) (offset : ℤ)
      → call_event (state_of l book) (Event.Seek whence offset)
      ≡ or_refused (seek_refusal l.lanes l.size l.pointer l.view whence offset (all_pass (on is_idle) l.lane)) (state_of l book)
      (seek_step (state_of l book) (seek_target l whence offset))
  seek_step_lem whence offset =
      rw (target_is l whence offset)
      (seek_chain next_lane (state_of l book) whence offset ∙ when_sound l book ok _
      ∙ four_tests (state_of l book) (seek_step (state_of l book) (seek_target l whence offset))
      (eqb l.lanes 0) (ltb 2 whence) (not (all_pass (on is_idle) l.lane)) (is_outside (seek_target l whence offset)) 3 8 10 14)
