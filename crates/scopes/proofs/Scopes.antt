-- An event is the event of the call that it makes.
use mathlib.Core.Path.{◌≡◌, refl, sym, ap, ◌∙◌}
use mathlib.Core.Bool.{true}
use Rattle.lists.proofs.Tests.{both}
use Rattle.event.specs.Kinds.{is_listed}
use Rattle.event.specs.Event.{kind_of}
use Rattle.event.specs.declared.Event.{Event}
use Rattle.scopes.specs.declared.Scope.{Scope}
use Rattle.scopes.specs.Scope.{event_in, scope_of}

pub scope_event : (e : Event) → event_in (scope_of e) ≡ e
scope_event (Event.Open lanes capacity) = refl
scope_event (Event.Want i purpose) = refl
scope_event (Event.Receive i) = refl
scope_event (Event.Take i c) = refl
scope_event (Event.Write i content) = refl
scope_event (Event.Read i) = refl
scope_event (Event.Put i k content) = refl
scope_event (Event.Look i k) = refl
scope_event (Event.Free i) = refl
scope_event (Event.Enter i c) = refl
scope_event (Event.View displacement extent used blocks) = refl
scope_event (Event.Seek whence offset) = refl
scope_event Event.Unlisted = refl

-- by what was found out
pub found_event : (e : Event) (s : Scope) → scope_of e ≡ s → e ≡ event_in s
found_event e s q = sym (scope_event e) ∙ ap event_in q

-- an event of a listed kind calls something
pub listed_calls : {X : Type 0} (e : Event) → is_listed (kind_of e) ≡ true → scope_of e ≡ Scope.Unlisted → X
listed_calls e t q = both t (ap (λ (v : Event). is_listed (kind_of v)) (found_event e Scope.Unlisted q))
