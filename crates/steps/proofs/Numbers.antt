-- The number of an accepted answer is the kind that was called, where two kinds give one answer the lower of them; a refusal has no values.
use Prim.Native.Nat.{ℕ}
use mathlib.Core.Path.{◌≡◌, refl, sym, ap, ◌∙◌}
use mathlib.Core.Bool.{true, cond}
use mathlib.Core.List.{[]}
use lib.Dec.{eqb, leb}
use Rattle.lists.proofs.Tests.{by_test, clash}
use Rattle.view.specs.View.{record_end}
use Rattle.view.specs.declared.Place.{Place}
use Rattle.line.specs.Line.{phase_at, place_in}
use Rattle.event.specs.Event.{given, kind_of}
use Rattle.event.specs.declared.Event.{Event}
use Rattle.steps.specs.Answer.{said_by}
use Rattle.steps.specs.State.{Result, State}
use Rattle.steps.specs.Effects.{Search, all_entered, effect, entered, others_down, record_at}
use Rattle.steps.specs.Step.{refuse, step_by}
use Rattle.steps.proofs.CheckingOrder.{accepted_none, none_accepted}

-- 03 answers as 02 does, 07 as 05, 08 as 06
abbrev pub answered_kind : ℕ → ℕ
answered_kind kind = cond (eqb kind 0x03) 0x02 (cond (eqb kind 0x07) 0x05 (cond (eqb kind 0x08) 0x06 kind))

record_number : (x : State) (k : Place) → (said_by (record_at x k)).number ≡ 0x06
record_number x k = by_test (leb (record_end x.line.view k) x.line.size) (λ t. rw t) (λ f. rw f)

effect_number : (search : Search) (x : State) (e : Event) → (said_by (effect search x e).answer).accepted ≡ true → (said_by (effect search x e).answer).number ≡ answered_kind (kind_of e)
effect_number search x (Event.Open lanes capacity) a = refl
effect_number search x (Event.Want i p) a = by_test (others_down x.line i) (λ t. rw t) (λ f. rw f)
effect_number search x (Event.Receive i) a = refl
effect_number search x (Event.Take i c) a = refl
effect_number search x (Event.Write i content) a = refl
effect_number search x (Event.Read i) a = record_number x (place_in (phase_at x.line i))
effect_number search x (Event.Put i k content) a = refl
effect_number search x (Event.Look i k) a = record_number x k
effect_number search x (Event.Free i) a = refl
effect_number search x (Event.Enter i c) a = by_test (all_entered x.line (entered x.line i c)) (λ t. rw t) (λ f. rw f)
effect_number search x (Event.View displacement extent used blocks) a = refl
effect_number search x (Event.Seek whence offset) a = refl
effect_number search x Event.Unlisted a = clash (sym a)

pub accepted_number : (search : Search) (x : State) (e : Event) → (said_by (step_by search x (given e)).answer).accepted ≡ true
    → (said_by (step_by search x (given e)).answer).number ≡ answered_kind (kind_of e)
accepted_number search x e a =
    let same = none_accepted search x (given e) (accepted_none search x (given e) a) in
    ap (λ (r : Result). (said_by r.answer).number) same ∙ effect_number search x e (rw same at a)

-- a refusal says its number and nothing else
pub refused_says : (k : ℕ) (x : State) → (said_by (refuse k x).answer).number ≡ k
refused_says k x = refl

pub refused_alone : (k : ℕ) (x : State) → (said_by (refuse k x).answer).values ≡ []
refused_alone k x = refl
