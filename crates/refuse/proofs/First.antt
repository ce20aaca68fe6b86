-- On a sound line the first tests of a call are 4 and, where it names a lane, 8: what the step is where each applies, and past them.
use Prim.Native.Nat.{ℕ, ◌≤◌, ◌<◌}
use mathlib.Core.Path.{◌≡◌, sym, ap, ◌∙◌, subst}
use mathlib.Core.Bool.{Bool, true, false, cond, not}
use mathlib.Core.List.{List}
use native.Mathlib.Omega.{arith}
use lib.ListN.{length}
use borrow.Author.Tests.{eq-eqb, le-leb, lt-leb, ne_eqb}
use Rattle.line.specs.declared.Line.{Line}
use Rattle.line.specs.Sound.{sound}
use Rattle.steps.specs.State.{Result}
use Rattle.steps.specs.Meets.{Meets, state_of}
use Rattle.steps.specs.Step.{refuse}
use Rattle.steps.specs.declared.Outcome.{Outcome}
use Rattle.steps.proofs.Chains.{at_lane_lem, when_open_lem, when_sound_lem}
use Rattle.refuse.specs.Refused.{refused_outcome}

-- a step that is known as another one
pub meets_as : {s t : Result} {o : Outcome} {bytes : List ℕ} → s ≡ t → Meets t o bytes → Meets s o bytes
meets_as {s} {t} {o} {bytes} e m = subst (λ (r : Result). Meets r o bytes) (sym e) m

-- what `refuse` gives for a reason with this number
pub refused_with : (l : Line) (k : ℕ) {o : Outcome} → (j : ℕ) × (j ≡ k) × (o ≡ refused_outcome l j) → o ≡ refused_outcome l k
refused_with l k e = e.2 ∙ ap (λ (j : ℕ). refused_outcome l j) e.1

module _ (l : Line) (book : List ℕ) where
  pub meets_refused : (k : ℕ) {step : Result} {o : Outcome} → step ≡ refuse k (state_of l book) → o ≡ refused_outcome l k → Meets step o book
  meets_refused k e f =
      record {
        answer = ap (λ (o : Outcome). o.answer) f ∙ sym (ap (λ (r : Result). r.answer) e);
        line = ap (λ (o : Outcome). o.line) f ∙ sym (ap (λ (r : Result). r.after.line) e);
        book = sym (ap (λ (r : Result). r.after.book) e);
      }

  -- a test that a call has to pass
  pub fails : (k : ℕ) {b : Bool} (rest : Result) → b ≡ false → cond (not b) (refuse k (state_of l book)) rest ≡ refuse k (state_of l book)
  fails k rest e = rw e

  pub passes : (k : ℕ) {b : Bool} (rest : Result) → b ≡ true → cond (not b) (refuse k (state_of l book)) rest ≡ rest
  passes k rest e = rw e

  -- a test that refuses the call where it holds
  pub stops : (k : ℕ) {b : Bool} (rest : Result) → b ≡ true → cond b (refuse k (state_of l book)) rest ≡ refuse k (state_of l book)
  stops k rest e = rw e

  pub goes_on : (k : ℕ) {b : Bool} (rest : Result) → b ≡ false → cond b (refuse k (state_of l book)) rest ≡ rest
  goes_on k rest e = rw e

  module _ (ok : sound l (length book) ≡ true) where
    pub when_sound : (rest : Result) → when_sound_lem (state_of l book) rest ≡ rest
    when_sound rest = rw ok

    pub not_open : (rest : Result) → l.lanes ≡ 0 → when_open_lem (state_of l book) rest ≡ refuse 4 (state_of l book)
    not_open rest z = rw (ok, eq-eqb l.lanes 0 z)

    pub when_open : (rest : Result) → (l.lanes ≡ 0 → ⊥) → when_open_lem (state_of l book) rest ≡ rest
    when_open rest n = rw (ok, ne_eqb l.lanes 0 n)

    pub no_lane : (i : ℕ) (rest : Result) → (l.lanes ≡ 0 → ⊥) → l.lanes ≤ i → at_lane_lem (state_of l book) i rest ≡ refuse 8 (state_of l book)
    no_lane i rest n h = rw (ok, ne_eqb l.lanes 0 n, le-leb l.lanes i h)

    pub at_lane : (i : ℕ) (rest : Result) → i < l.lanes → at_lane_lem (state_of l book) i rest ≡ rest
    at_lane i rest h = rw (ok, ne_eqb l.lanes 0 (λ z. omega arith), lt-leb l.lanes i h)

    -- ---- the refusals of a call whose step is a chain of tests
    module _ {step : Result} {o : Outcome} where
      pub refused_4 : (rest : Result) → step ≡ when_open_lem (state_of l book) rest → l.lanes ≡ 0 → o ≡ refused_outcome l 4 → Meets step o book
      refused_4 rest chain z f = meets_refused 4 (chain ∙ not_open rest z) f

      pub refused_8 : (i : ℕ) (rest : Result) → step ≡ at_lane_lem (state_of l book) i rest → (l.lanes ≡ 0 → ⊥) → l.lanes ≤ i → o ≡ refused_outcome l 8 → Meets step o book
      refused_8 i rest chain n h f = meets_refused 8 (chain ∙ no_lane i rest n h) f

      -- the test with number k, which comes right after those of the lane
      pub refused_at : (k i : ℕ) (b : Bool) (rest : Result) → step ≡ at_lane_lem (state_of l book) i (cond (not b) (refuse k (state_of l book)) rest) → i < l.lanes → b ≡ false → o ≡ refused_outcome l k
          → Meets step o book
      refused_at k i b rest chain h e f = meets_refused k (chain ∙ at_lane i _ h ∙ fails k rest e) f
