-- The calls open, view and seek from what the functions answer: refused for a reason, or accepted.
use Rattle.std.specs.Prelude.{Option, Some, None}
use Prim.Native.Nat.{ℕ, suc, ◌≤◌}
use mathlib.Core.Path.{◌≡◌, refl, sym, ap, ◌∙◌}
use mathlib.Core.Bool.{Bool, true, false, cond, not, ◌&&◌}
use mathlib.Core.List.{List}
use native.Mathlib.Omega.{arith}
use lib.IntN.{ℤ}
use lib.Dec.{eqb, leb}
use borrow.Author.Tests.{leb-true, not-false}
use Rattle.limits.specs.Limits.{least_capacity, most_capacity}
use Rattle.lists.proofs.Tests.{and_right, by_test, clash}
use Rattle.view.specs.View.{place}
use Rattle.view.specs.declared.Place.{Place}
use Rattle.line.specs.declared.Line.{Line}
use Rattle.event.specs.Refusal.{number_of}
use Rattle.event.specs.declared.Refusal.{Refusal}
use Rattle.event.proofs.Reasons.{some_number}
use Rattle.steps.specs.Effects.{place_at}
use Rattle.steps.specs.Meets.{Meets, state_of}
use Rattle.steps.specs.Refusals.{is_outside}
use Rattle.steps.specs.State.{Result}
use Rattle.steps.specs.declared.Outcome.{Outcome}
use Rattle.refuse.specs.Refused.{refused_outcome}
use Rattle.refuse.proofs.First.{meets_as, meets_refused, refused_with}
use Rattle.setup_calls.specs.Setup.{capacity_test, lanes_test, open_refusal, sought_at}
use Rattle.setup_calls.proofs.Steps.{none_refuses, or_refused, refused_by}

-- ---- the last test of a chain that no number refuses
last_of_two : (a b : Bool) (i j : ℕ) → ◌≡◌ {A = ℕ} (cond a (suc i) (cond b (suc j) 0)) 0 → b ≡ false
last_of_two true b i j e = absurd (omega arith)
last_of_two false true i j e = absurd (omega arith)
last_of_two false false i j e = refl

last_of_three : (a b c : Bool) (i j k : ℕ) → ◌≡◌ {A = ℕ} (cond a (suc i) (cond b (suc j) (cond c (suc k) 0))) 0 → c ≡ false
last_of_three true b c i j k e = absurd (omega arith)
last_of_three false b c i j k e = last_of_two b c j k e

-- the buffer holds the capacity of an opening that nothing refuses
pub capacity_held : (own lanes capacity buffer : ℕ) → open_refusal own lanes capacity buffer ≡ 0 → capacity ≤ buffer
capacity_held own lanes capacity buffer e =
    let held = last_of_three (not (eqb own 0)) (not (lanes_test lanes)) (not (capacity_test capacity buffer)) 4 5 6 e in
    leb-true capacity buffer (and_right (leb least_capacity capacity && leb capacity most_capacity) (leb capacity buffer) (not-false (capacity_test capacity buffer) held))

-- ---- the place sought
is_some : Option Place → Bool
is_some (Some k) = true
is_some None = false

value_in : Option Place → Place
value_in (Some k) = k
value_in None = place 0

pub place_sought : (target : ℤ) (k : Place) → Some k ≡ sought_at target → k ≡ place_at target
unfolding is_some value_in
place_sought target k e =
    by_test (is_outside target)
    (λ out. let n : Some k ≡ None = rw out at e in clash (ap is_some n))
    (λ within. let n : Some k ≡ Some (place_at target) = rw within at e in ap value_in n)

-- ---- a step that a number refuses, by the reason with that number, or where there is none
module _ (l : Line) (book : List ℕ) {step : Result} (rest : Result) (m : ℕ) (chain : step ≡ or_refused m (state_of l book) rest) where
  pub meets_reason : (r : Refusal) {o : Outcome} → number_of r ≡ m → (j : ℕ) × (j ≡ number_of r) × (o ≡ refused_outcome l j) → Meets step o book
  meets_reason r asked told =
      meets_refused l book (number_of r)
      (chain ∙ ap (λ (j : ℕ). or_refused j (state_of l book) rest) (sym asked) ∙ refused_by (number_of r) (state_of l book) rest (λ z. let some = some_number r in omega arith))
      (refused_with l (number_of r) told)

  pub meets_none : {o : Outcome} {bytes : List ℕ} → 0 ≡ m → Meets rest o bytes → Meets step o bytes
  meets_none none meets = meets_as (chain ∙ none_refuses m (state_of l book) rest (sym none)) meets
