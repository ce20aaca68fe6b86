-- A call is refused by the first reason in the checking order that applies, accepted exactly where none applies, and a refused call changes nothing.
use Prim.Native.Nat.{ℕ}
use mathlib.Core.Path.{◌≡◌, refl, sym, ap}
use mathlib.Core.Logic.{◌⊎◌, inl, inr}
use mathlib.Core.Bool.{Bool, true, false, not}
use mathlib.Core.List.{List, [], ◌∷◌}
use lib.Dec.{eqb, leb}
use borrow.Author.Tests.{eq-eqb, eqb-true, not-true}
use Rattle.lists.specs.Lists.{all_pass, some_pass}
use Rattle.lists.proofs.Tests.{and_left, and_right, both, by_test, clash, neither_left, neither_right}
use Rattle.view.specs.View.{record_end}
use Rattle.view.specs.declared.Place.{Place}
use Rattle.line.specs.Line.{phase_at, place_in}
use Rattle.event.specs.Kinds.{is_listed}
use Rattle.event.specs.Event.{Call, cut_short, given, kind_of}
use Rattle.event.specs.declared.Event.{Event}
use Rattle.steps.specs.Answer.{said_by}
use Rattle.steps.specs.State.{Result, State}
use Rattle.steps.specs.Effects.{Search, all_entered, effect, entered, others_down, record_at}
use Rattle.steps.specs.Refusals.{Reason, applies_in, before, differ_in, reasons}
use Rattle.steps.specs.Step.{effect_of, refuse, step_by, unless_refused}
use Rattle.steps.specs.declared.Answer.{Answer}

-- reason k applies, by its number
abbrev pub Applies : State → Call → ℕ → Type 0
Applies x c k = applies_in reasons k x c ≡ true

abbrev pub NotApplies : State → Call → ℕ → Type 0
NotApplies x c k = applies_in reasons k x c ≡ false

-- a test of a reason by whether it applies
abbrev pub applying : State → Call → Reason → Bool
applying x c q = q.applies x c

-- reason k applies, and none that stands before it in the checking order
pub record First (x : State) (c : Call) (k : ℕ) : Type 0 where
  pub applies : Applies x c k
  pub earlier : some_pass (applying x c) (before k reasons) ≡ false

-- ---- through a list of reasons
record FirstIn (qs : List Reason) (x : State) (c : Call) (k : ℕ) : Type 0 where
  applies : applies_in qs k x c ≡ true
  earlier : some_pass (applying x c) (before k qs) ≡ false

-- a reason that applies is none of those that have another number
other_number : (n : ℕ) (qs : List Reason) (x : State) (c : Call) (k : ℕ) → all_pass (λ (r : Reason). not (eqb n r.number)) qs ≡ true → applies_in qs k x c ≡ true → eqb n k ≡ false
other_number n [] x c k d a = clash (sym a)
other_number n (q ∷ qs) x c k d a =
    by_test (eqb q.number k)
    (λ t. let e = eqb-true q.number k t in rw (← e) (not-true _ (and_left (not (eqb n q.number)) (all_pass (λ (r : Reason). not (eqb n r.number)) qs) d)))
    (λ f. other_number n qs x c k (and_right (not (eqb n q.number)) (all_pass (λ (r : Reason). not (eqb n r.number)) qs) d) (rw f at a))

first_here : (q : Reason) (qs : List Reason) (x : State) (c : Call) → q.applies x c ≡ true → FirstIn (q ∷ qs) x c q.number
first_here q qs x c t = let e = eq-eqb q.number q.number refl in record { applies = rw e t; earlier = rw e }

first_later : (q : Reason) (qs : List Reason) (x : State) (c : Call) (k : ℕ) → q.applies x c ≡ false → eqb q.number k ≡ false → FirstIn qs x c k → FirstIn (q ∷ qs) x c k
first_later q qs x c k f n w = record { applies = rw n w.applies; earlier = rw (n, f) w.earlier }

abbrev Outcome : List Reason → State → Call → Result → Type 0
Outcome qs x c r =
    ((k : ℕ) × FirstIn qs x c k × (unless_refused qs x c r ≡ refuse k x)) ⊎ (((k : ℕ) → applies_in qs k x c ≡ false) × (unless_refused qs x c r ≡ r))

outcome : (qs : List Reason) → differ_in qs ≡ true → (x : State) (c : Call) (r : Result) → Outcome qs x c r
outcome [] d x c r = inr ((λ k. refl), refl)
outcome (q ∷ qs) d x c r =
    by_test (q.applies x c) (λ t. inl (q.number, first_here q qs x c t, rw t)) (λ f. go f (outcome qs (and_right differs (differ_in qs) d) x c r))
  where
    differs : Bool
    differs = all_pass (λ (p : Reason). not (eqb q.number p.number)) qs

    go : q.applies x c ≡ false → Outcome qs x c r → Outcome (q ∷ qs) x c r
    go f (inl w) = inl (w.0, first_later q qs x c w.0 f (other_number q.number qs x c w.0 (and_left differs (differ_in qs) d) w.1.applies) w.1, rw f w.2)
    go f (inr w) = inr ((λ k. by_test (eqb q.number k) (λ t. rw t f) (λ n. rw n (w.0 k))), rw f w.1)

-- the first that applies refuses
first_refuses : (qs : List Reason) (x : State) (c : Call) (r : Result) (k : ℕ) → FirstIn qs x c k → unless_refused qs x c r ≡ refuse k x
first_refuses [] x c r k w = clash (sym w.applies)
first_refuses (q ∷ qs) x c r k w =
    by_test (eqb q.number k)
    (λ t. let e = eqb-true q.number k t in rw (rw t at w.applies) (ap (λ (n : ℕ). refuse n x) e))
    (λ n. let none = rw n at w.earlier in
    let f = neither_left (q.applies x c) (some_pass (applying x c) (before k qs)) none in
    rw f (first_refuses qs x c r k (record { applies = rw n at w.applies; earlier = neither_right (q.applies x c) (some_pass (applying x c) (before k qs)) none })))

-- where no reason of the list applies, none does by its number
none_in : (qs : List Reason) (x : State) (c : Call) → some_pass (applying x c) qs ≡ false → (k : ℕ) → applies_in qs k x c ≡ false
none_in [] x c n k = refl
none_in (q ∷ qs) x c n k =
    by_test (eqb q.number k) (λ t. rw t (neither_left (q.applies x c) (some_pass (applying x c) qs) n)) (λ f. rw f (none_in qs x c (neither_right (q.applies x c) (some_pass (applying x c) qs) n) k))

pub none_applies : (x : State) (c : Call) → some_pass (applying x c) reasons ≡ false → (k : ℕ) → NotApplies x c k
none_applies x c n k = none_in reasons x c n k

-- ---- what takes effect is accepted
record_accepted : (x : State) (k : Place) → (said_by (record_at x k)).accepted ≡ true
record_accepted x k = by_test (leb (record_end x.line.view k) x.line.size) (λ t. rw t) (λ f. rw f)

effect_accepted : (search : Search) (x : State) (e : Event) → not (is_listed (kind_of e)) ≡ false → (said_by (effect search x e).answer).accepted ≡ true
effect_accepted search x (Event.Open lanes capacity) h = refl
effect_accepted search x (Event.Want i p) h = by_test (others_down x.line i) (λ t. rw t) (λ f. rw f)
effect_accepted search x (Event.Receive i) h = refl
effect_accepted search x (Event.Take i c) h = refl
effect_accepted search x (Event.Write i content) h = refl
effect_accepted search x (Event.Read i) h = record_accepted x (place_in (phase_at x.line i))
effect_accepted search x (Event.Put i k content) h = refl
effect_accepted search x (Event.Look i k) h = record_accepted x k
effect_accepted search x (Event.Free i) h = refl
effect_accepted search x (Event.Enter i c) h = by_test (all_entered x.line (entered x.line i c)) (λ t. rw t) (λ f. rw f)
effect_accepted search x (Event.View displacement extent used blocks) h = refl
effect_accepted search x (Event.Seek whence offset) h = refl
effect_accepted search x Event.Unlisted h = clash h

call_accepted : (search : Search) (x : State) (c : Call) → ((k : ℕ) → NotApplies x c k) → (said_by (effect_of search x c).answer).accepted ≡ true
call_accepted search x (given e) f = effect_accepted search x e (f 2)
call_accepted search x cut_short f = clash (f 3)

-- ---- the laws
-- a step is a refusal with the number of the first reason that applies, or it takes effect where none applies
pub data Decided (search : Search) (x : State) (c : Call) : Result → Type 0 where
  refused : (k : ℕ) → First x c k → Decided search x c (refuse k x)
  accepted : ((k : ℕ) → NotApplies x c k) → Decided search x c (effect_of search x c)

pub decided : (search : Search) (x : State) (c : Call) → Decided search x c (step_by search x c)
unfolding step_by
decided search x c = go (outcome reasons refl x c (effect_of search x c))
  where
    go : Outcome reasons x c (effect_of search x c) → Decided search x c (unless_refused reasons x c (effect_of search x c))
    go (inl w) = rw w.2 (refused w.0 (record { applies = w.1.applies; earlier = w.1.earlier }))
    go (inr w) = rw w.1 (accepted w.0)

-- the number that an answer gives
abbrev number : Answer → ℕ
number a = (said_by a).number

-- "A call is refused with k exactly when k's reason applies and none that stands before it in the list does"
module _ (search : Search) (x : State) (c : Call) where
  pub refused_first : (k : ℕ) → (step_by search x c).answer ≡ Answer.Refused k → First x c k
  refused_first k e = go (decided search x c) e
    where
      go : {r : Result} → Decided search x c r → r.answer ≡ Answer.Refused k → First x c k
      go (refused m w) q = let z : m ≡ k = ap number q in rw z at w
      go (accepted f) q = both (call_accepted search x c f) (ap (λ (a : Answer). (said_by a).accepted) q)

  pub first_refused : (k : ℕ) → First x c k → step_by search x c ≡ refuse k x
  unfolding step_by
  first_refused k w = first_refuses reasons x c (effect_of search x c) k (record { applies = w.applies; earlier = w.earlier })

  pub accepted_none : (said_by (step_by search x c).answer).accepted ≡ true → (k : ℕ) → NotApplies x c k
  accepted_none e = go (decided search x c) e
    where
      go : {r : Result} → Decided search x c r → (said_by r.answer).accepted ≡ true → (k : ℕ) → NotApplies x c k
      go (refused m w) q k = clash (sym q)
      go (accepted f) q k = f k

  pub none_accepted : ((k : ℕ) → NotApplies x c k) → step_by search x c ≡ effect_of search x c
  none_accepted f = go (decided search x c)
    where
      go : {r : Result} → Decided search x c r → r ≡ effect_of search x c
      go (refused m w) = both w.applies (f m)
      go (accepted g) = refl

  pub none_accepts : ((k : ℕ) → NotApplies x c k) → (said_by (step_by search x c).answer).accepted ≡ true
  none_accepts f = rw (none_accepted f) (call_accepted search x c f)

  -- "A refused call changes neither line nor book"
  pub refused_keeps : (said_by (step_by search x c).answer).accepted ≡ false → (step_by search x c).after ≡ x
  refused_keeps e = go (decided search x c) e
    where
      go : {r : Result} → Decided search x c r → (said_by r.answer).accepted ≡ false → r.after ≡ x
      go (refused m w) q = refl
      go (accepted f) q = both (call_accepted search x c f) q
