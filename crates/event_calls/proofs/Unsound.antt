-- On a line that is not sound every call is refused with 1; a call whose bytes give no event is refused with 2 or 3.
use Rattle.std.specs.Prelude.{Some, None, Ok, Err}
use mathlib.Core.Path.{◌≡◌, sym, ap, ◌∙◌}
use mathlib.Core.Bool.{Bool, true, false}
use mathlib.Core.List.{List}
use Prim.Native.Nat.{ℕ}
use lib.ListN.{length}
use Rattle.line.specs.declared.Line.{Line}
use Rattle.line.specs.Sound.{sound}
use Rattle.waitlist.specs.NextLane.{next_lane}
use Rattle.lists.proofs.Tests.{by_test, clash}
use Rattle.event.specs.Kinds.{is_listed}
use Rattle.event.specs.Event.{Call, cut_short, given, kind_of}
use Rattle.event.specs.ReadWrite.{Reading, event_read, reading_of}
use Rattle.event.specs.Refusal.{number_of}
use Rattle.event.specs.declared.Cursor.{Cursor}
use Rattle.event.specs.declared.Refusal.{Refusal}
use Rattle.event.specs.declared.Event.{Event}
use Rattle.event.proofs.ByKind.{not_listed}
use Rattle.event.proofs.Lengths.{same_event}
use Rattle.steps.specs.Meets.{Meets, state_of}
use Rattle.steps.specs.Step.{call_event, refuse, step_by}
use Rattle.steps.proofs.Chains.{cut_chain, unlisted_chain, when_sound_lem}
use Rattle.steps.specs.declared.Outcome.{Outcome}
use Rattle.refuse.specs.Refused.{refused_outcome}
use Rattle.event_calls.specs.Refused.{refused_bytes}
use Rattle.refuse.proofs.First.{meets_refused, when_sound}

unsound_step : (l : Line) (book : List ℕ) (c : Call) → sound l (length book) ≡ false → step_by next_lane (state_of l book) c ≡ refuse 1 (state_of l book)
unfolding step_by
unsound_step l book c e = rw e

pub unsound : (l : Line) (book : List ℕ) (c : Call) (o : Outcome) → sound l (length book) ≡ false → o ≡ refused_outcome l 1 → Meets (step_by next_lane (state_of l book) c) o book
unsound l book c o e f = meets_refused l book 1 (unsound_step l book c e) f

-- ---- a call whose bytes give no event
no_event : (l : Line) (book : List ℕ) (c : Call) (k : ℕ) (o : Outcome) → step_by next_lane (state_of l book) c ≡ when_sound_lem (state_of l book) (refuse k (state_of l book)) → o ≡ refused_bytes l (length book) k
    → Meets (step_by next_lane (state_of l book) c) o book
no_event l book c k o chain f =
    by_test (sound l (length book)) (λ t. meets_refused l book k (chain ∙ rw t) (f ∙ rw t)) (λ t. unsound l book c o t (f ∙ rw t))

-- an event of an unlisted kind
pub no_kind : (l : Line) (book : List ℕ) (o : Outcome) → o ≡ refused_bytes l (length book) 2 → Meets (call_event (state_of l book) Event.Unlisted) o book
no_kind l book o f = no_event l book (given Event.Unlisted) 2 o (unlisted_chain next_lane (state_of l book)) f

-- on a sound line
pub unlisted_refused : (l : Line) (book : List ℕ) (o : Outcome) → sound l (length book) ≡ true → o ≡ refused_outcome l 2 → Meets (call_event (state_of l book) Event.Unlisted) o book
unlisted_refused l book o ok f = meets_refused l book 2 (unlisted_chain next_lane (state_of l book) ∙ when_sound l book ok _) f

-- ---- from what was read to the call
is_event : Reading → Bool
is_event (Ok (Some e)) = true
is_event (Ok None) = false
is_event (Err r) = false

is_end : Reading → Bool
is_end (Ok (Some e)) = false
is_end (Ok None) = true
is_end (Err r) = false

reason_in : Refusal → Reading → Refusal
reason_in d (Ok e) = d
reason_in d (Err r) = r

pub event_call : (c : Call) (n : ℕ) (e : Event) (next : Cursor) → reading_of n c ≡ event_read e next → c ≡ given e
unfolding is_event
event_call (given f) n e next q =
    by_test (is_listed (kind_of f))
    (λ t. let r : event_read f (record { at = n }) ≡ event_read e next = rw t at q in ap given (same_event f e _ next r))
    (λ t. let r : ◌≡◌ {A = Reading} (Err Refusal.UnlistedKind) (event_read e next) = rw t at q in clash (sym (ap is_event r)))
event_call cut_short n e next q = clash (sym (ap is_event q))

pub never_end : {X : Type 0} (c : Call) (n : ℕ) → reading_of n c ≡ Ok None → X
unfolding is_end
never_end (given f) n q =
    by_test (is_listed (kind_of f))
    (λ t. let r : event_read f (record { at = n }) ≡ Ok None = rw t at q in clash (sym (ap is_end r)))
    (λ t. let r : ◌≡◌ {A = Reading} (Err Refusal.UnlistedKind) (Ok None) = rw t at q in clash (sym (ap is_end r)))
never_end cut_short n q = clash (sym (ap is_end q))

pub refused_call : (l : Line) (book : List ℕ) (c : Call) (n : ℕ) (r : Refusal) (o : Outcome) → reading_of n c ≡ Err r → o ≡ refused_bytes l (length book) (number_of r)
    → Meets (step_by next_lane (state_of l book) c) o book
unfolding is_event reason_in
refused_call l book (given f) n r o q e =
    by_test (is_listed (kind_of f))
    (λ t. let s : event_read f (record { at = n }) ≡ Err r = rw t at q in clash (ap is_event s))
    (λ t. let s : ◌≡◌ {A = Reading} (Err Refusal.UnlistedKind) (Err r) = rw t at q in
    let same : Refusal.UnlistedKind ≡ r = ap (reason_in r) s in
    rw (not_listed f t) (no_kind l book o (rw (sym same) at e)))
refused_call l book cut_short n r o q e =
    let same : Refusal.CutShort ≡ r = ap (reason_in r) q in no_event l book cut_short 3 o (cut_chain next_lane (state_of l book)) (rw (sym same) at e)
