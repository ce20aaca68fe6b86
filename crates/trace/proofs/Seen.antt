-- What the bytes of a call and its answer show of the step that it made.
use Prim.Native.Nat.{ℕ, zero, suc, ◌≤◌, ◌<◌}
use mathlib.Core.Path.{◌≡◌, refl, sym, ap, ◌∙◌, subst}
use mathlib.Core.Logic.{◌⊎◌, inl, inr}
use mathlib.Core.Bool.{cond, true, ◌||◌}
use mathlib.Core.List.{List, [], ◌∷◌}
use native.Mathlib.Omega.{arith}
use lib.ListN.{drop, get_or, length, take}
use lib.Dec.{leb}
use borrow.Author.Tests.{leb-true}
use Rattle.lists.proofs.Tests.{by_test, clash}
use Rattle.waitlist.specs.NextLane.{next_lane}
use Rattle.event.specs.BigEndian.{number_of}
use Rattle.event.specs.Kinds.{body_length, field_lengths, is_listed}
use Rattle.event.specs.Event.{Call, cut_short, event_of, fields_in, given, kind_of}
use Rattle.event.specs.declared.Event.{Event}
use Rattle.steps.specs.Answer.{Said, said_by}
use Rattle.steps.specs.State.{Result, State}
use Rattle.steps.specs.Refusals.{field, is, lane_of, names_lane}
use Rattle.steps.specs.Step.{refuse, step_by}
use Rattle.steps.proofs.Cases.{Steps, refuses, steps}
use Rattle.event.proofs.ByKind.{◌▹◌, by_kind, listed, listed_or}
use Rattle.trace.specs.Trace.{CallBytes, Entry, call_in, entry, said_to}

-- ---- the fields of an event that an entry shows; the others are those of the bytes
abbrev pub lane_from : Event → ℕ → ℕ
lane_from e l = cond (names_lane e) (lane_of e) l

abbrev pub purpose_from : Event → ℕ → ℕ
purpose_from e q = cond (is 0x02 e) (field 1 e) q

abbrev pub count_from : Event → ℕ → ℕ
count_from e n = cond (is 0x04 e || is 0x0A e) (field 1 e) n

-- the entry of an event, as its bytes show it
abbrev pub shown_entry : Event → Entry → Said → Entry
shown_entry e d said = record { kind = kind_of e; lane = lane_from e d.lane; purpose = purpose_from e d.purpose; count = count_from e d.count; said = said }

-- a byte of the body is a field of one byte
byte_at : (bytes : List ℕ) (j : ℕ) → j < length bytes → number_of (take 1 (drop j bytes)) ≡ get_or bytes j 0
unfolding number_of
byte_at [] j h = absurd (omega arith)
byte_at (b ∷ bs) zero h = omega arith
byte_at (b ∷ bs) (suc j) h = byte_at bs j (omega arith)

abbrev Shows : List ℕ → Said → ℕ → Type 0
Shows bytes said k =
    body_length k ≤ length bytes
    → entry (record { kind = k; body = bytes }) said ≡ shown_entry (event_of k (fields_in (field_lengths k) bytes)) (entry (record { kind = k; body = bytes }) said) said

shows : (bytes : List ℕ) (said : Said) (k : ℕ) → is_listed k ≡ true → Shows bytes said k
unfolding fields_in
shows bytes said k t =
    by_kind (Shows bytes said)
    ((λ h. refl)
    ▹ (λ h. rw (byte_at bytes 0 (omega arith), byte_at bytes 1 (omega arith)))
    ▹ (λ h. rw (byte_at bytes 0 (omega arith)))
    ▹ (λ h. rw (byte_at bytes 0 (omega arith)))
    ▹ (λ h. rw (byte_at bytes 0 (omega arith)))
    ▹ (λ h. rw (byte_at bytes 0 (omega arith)))
    ▹ (λ h. rw (byte_at bytes 0 (omega arith)))
    ▹ (λ h. rw (byte_at bytes 0 (omega arith)))
    ▹ (λ h. rw (byte_at bytes 0 (omega arith)))
    ▹ (λ h. rw (byte_at bytes 0 (omega arith)))
    ▹ (λ h. refl)
    ▹ (λ h. refl)
    ▹ listed)
    k t

-- ---- from the call to its event
pub entry_shown : (g : CallBytes) (said : Said) (e : Event) → call_in g ≡ given e → is_listed (kind_of e) ≡ true → entry g said ≡ shown_entry e (entry g said) said
entry_shown g said e q t =
    by_test (is_listed g.kind)
    (λ l. by_test (leb (body_length g.kind) (length g.body))
    (λ h. let w : given (event_of g.kind (fields_in (field_lengths g.kind) g.body)) ≡ given e = rw (l, h) at q in
    let z : event_of g.kind (fields_in (field_lengths g.kind) g.body) ≡ e = cc in
    rw z at (shows g.body said g.kind l (leb-true (body_length g.kind) (length g.body) h)))
    (λ h. let w : cut_short ≡ given e = rw (l, h) at q in
    let z : ◌≡◌ {A = ℕ} 0 1 = cc in absurd (omega arith)))
    (λ l. let w : given Event.Unlisted ≡ given e = rw l at q in
    let z : Event.Unlisted ≡ e = cc in
    clash (sym (ap (λ (v : Event). is_listed (kind_of v)) z ∙ t)))

-- what is so of every refusal and of every event's entry is so of the entry that a call makes
pub by_entry : (x : State) (g : CallBytes) (P : Entry → Result → Type 0)
    → ((d : Entry) (n : ℕ) → P (record { kind = d.kind; lane = d.lane; purpose = d.purpose; count = d.count; said = said_by (refuse n x).answer }) (refuse n x))
    → ((e : Event) (d : Entry) (r : Result) → Steps next_lane x (given e) r → P (shown_entry e d (said_by r.answer)) r)
    → P (entry g (said_to next_lane x g)) (step_by next_lane x (call_in g))
by_entry x g P refusal event = go (call_in g) refl (steps next_lane x (call_in g))
  where
    unlisted : {r : Result} → Steps next_lane x (given Event.Unlisted) r → P (entry g (said_by r.answer)) r
    unlisted (refuses n) = refusal (entry g (said_by (refuse n x).answer)) n

    listed : (e : Event) (r : Result) → call_in g ≡ given e → (is_listed (kind_of e) ≡ true) ⊎ (e ≡ Event.Unlisted) → Steps next_lane x (given e) r → P (entry g (said_by r.answer)) r
    listed e r q (inl t) s = subst (λ (d : Entry). P d r) (sym (entry_shown g (said_by r.answer) e q t)) (event e (entry g (said_by r.answer)) r s)
    listed e r q (inr z) s = unlisted (subst (λ (v : Event). Steps next_lane x (given v) r) z s)

    go : (c : Call) {r : Result} → call_in g ≡ c → Steps next_lane x c r → P (entry g (said_by r.answer)) r
    go (given e) {r} q s = listed e r q (listed_or e) s
    go cut_short q (refuses n) = refusal (entry g (said_by (refuse n x).answer)) n
