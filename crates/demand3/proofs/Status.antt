-- How a lane stands, read off the calls and answers, is what its phase says.
use Rattle.std.specs.Prelude.{Option, Some, None}
use Prim.Native.Nat.{ℕ, zero, suc, ◌+◌, ◌-◌, ◌≤◌, ◌<◌}
use mathlib.Core.Path.{◌≡◌, refl, sym, ap, ◌∙◌}
use mathlib.Core.Bool.{true, false, cond, or-false}
use mathlib.Core.List.{List, [], ◌∷◌}
use native.Mathlib.Omega.{arith}
use native.Mathlib.Decide.{ℕ_discrete}
use lib.ListN.{get_or}
use lib.Dec.{eqb, leb}
use borrow.Author.Tests.{eq-eqb, ne_eqb}
use Rattle.lists.specs.Lists.{some_pass}
use Rattle.lists.proofs.Tests.{at_test, by_test, neither_left, neither_right}
use Rattle.lists.proofs.Counts.{all_get_d}
use Rattle.view.specs.View.{place, record_end}
use Rattle.view.specs.declared.Place.{Place}
use Rattle.line.specs.declared.Purpose.{Purpose}
use Rattle.line.specs.declared.Phase.{Phase}
use Rattle.line.specs.Line.{idle_lane, is_flagged, is_idle_or_gathered, on, phase_at, is_holding, is_idle, is_woken, purpose_in}
use Rattle.line.specs.Line as phases
use Rattle.line.proofs.Phases.{numbered}
use Rattle.waitlist.specs.NextLane.{next_lane, wakes_values}
use Rattle.event.specs.Event.{given}
use Rattle.event.specs.declared.Event.{Event}
use Rattle.steps.specs.Answer.{said_by}
use Rattle.steps.specs.State.{Result, State}
use Rattle.steps.specs.Effects.{all_entered, entered, lowered, next_of, one_less, others_down, purpose_of, reading, released, started, wake, woken as woken_phase, writing}
use Rattle.steps.specs.Step.{after_by}
use Rattle.steps.proofs.Cases.{Steps, enters, frees, looks, opens, puts, reads, receives, refuses, seeks, take_reads, take_writes, views, wants, writes}
use Rattle.steps.proofs.Keeps.{GoodState, free_leaving, fresh_idle, take_reads_leaving, take_writes_leaving}
use Rattle.steps.proofs.Ordered.{busy_by, entered_all, started_by}
use Rattle.steps.proofs.Release.{Chosen, Leaving, chosen, woken_now}
use Rattle.steps.proofs.Stored.{other_phase, placed, same_phase}
use Rattle.trace.specs.Trace.{Entry, CallBytes, after_all, entries, wakes, woken_by}
use Rattle.demand3.specs.Claim.{Status, status_has_turn, holding, status_waits, off, purpose_for, status, status_next, waiting, woken}
use Rattle.trace.proofs.Seen.{by_entry, shown_entry}
use Rattle.demand3.proofs.Trace.{entry_on, then, then_good}

-- the number of a purpose, by which the claim speaks
abbrev pub number_for : Purpose → ℕ
number_for Purpose.SharedWrite = 0
number_for Purpose.SharedRead = 1
number_for Purpose.WholeBook = 2

number_kept : (n : ℕ) → n ≤ 2 → number_for (purpose_of n) ≡ n
number_kept zero h = refl
number_kept (suc zero) h = refl
number_kept (suc (suc zero)) h = refl
number_kept (suc (suc (suc n))) h = absurd (omega arith)

abbrev pub status_of : Phase → Status
status_of y =
    cond (phases.is_waiting y) (waiting (number_for (purpose_in y)))
    (cond (is_woken y) (woken (number_for (purpose_in y)))
    (cond (is_holding y) (holding (number_for (purpose_in y))) off))

pub waits_is : (y : Phase) → status_waits (status_of y) ≡ phases.is_waiting y
waits_is y =
    by_test (phases.is_waiting y) (λ t. rw t)
    (λ f. rw f (by_test (is_woken y) (λ w. rw w) (λ w. rw w (by_test (is_holding y) (λ h. rw h) (λ h. rw h)))))

pub turn_is : (y : Phase) → status_has_turn (status_of y) ≡ phases.has_turn y
turn_is y =
    by_test (phases.is_waiting y) (λ t. rw (numbered y 1 t))
    (λ f. rw f (by_test (is_woken y) (λ w. rw w) (λ w. rw w (by_test (is_holding y) (λ h. rw h) (λ h. rw h)))))

ready_off : (y : Phase) → is_idle_or_gathered y ≡ true → status_of y ≡ off
ready_off y e = by_test (is_idle y) (λ i. rw (numbered y 0 i)) (λ i. rw (numbered y 6 (rw i at e)))

-- a lane whose flag is not up stands off
down_off : (y : Phase) → is_flagged y ≡ false → status_of y ≡ off
down_off y e =
    let turn = neither_right (phases.is_waiting y) (phases.has_turn y) e in
    rw (neither_left (phases.is_waiting y) (phases.has_turn y) e, neither_left (is_woken y) (is_holding y) turn, neither_right (is_woken y) (is_holding y) turn)

busy_off : (n : ℕ) (y : Phase) → status_of y ≡ off → status_of (cond (eqb n 0) Phase.Idle y) ≡ off
busy_off n y e = busy_by (λ (z : Phase). status_of z ≡ off) n y (λ z. refl) (λ z. e)

-- an entry takes a lane's standing to that of its phase after the step
pub record Stood (s : Status) (i : ℕ) (e : Entry) (r : Result) : Type 0 where
  pub is : status_next i s e ≡ status_of (phase_at r.after.line i)

module _ (x : State) (G : GoodState x) (i : ℕ) where
  abbrev now : Status
  now = status_of (phase_at x.line i)

  -- lane j gets phase y
  stored_stand : (j : ℕ) (y : Phase) → j < x.line.lanes → status_of (get_or (placed x.line j y) i idle_lane).phase ≡ cond (eqb j i) (status_of y) now
  stored_stand j y h =
      elim (ℕ_discrete j i) [
        | yes z ↦ rw (eq-eqb j i z, ← z, same_phase x.line G.facts.base j y h)
        | no z ↦ rw (ne_eqb j i z, other_phase x.line j i y (λ u. z (sym u)))
      ]

  -- .. that stands as the one before
  same_stand : (j : ℕ) (o y : Phase) → j < x.line.lanes → phase_at x.line j ≡ o → status_of y ≡ status_of o → now ≡ status_of (get_or (placed x.line j y) i idle_lane).phase
  same_stand j o y h e f =
      sym (stored_stand j y h ∙ elim (ℕ_discrete j i) [
        | yes z ↦ rw (eq-eqb j i z, f, ← e, z)
        | no z ↦ rw (ne_eqb j i z)
      ])

  -- ---- a release by lane k
  leaves_stand : (e : Entry) (a : Result) (k : ℕ) (o y : Phase) (q : Place) → status_next i now e ≡ cond (wakes i e) (woken (purpose_for now)) (cond (eqb k i) off now)
      → woken_by e ≡ wakes_values (next_of next_lane (lowered x.line k y q) k)
      → a.after.line ≡ released next_lane (lowered x.line k y q) k → status_of y ≡ off → Leaving x.line k o y q → Stood now i e a
  leaves_stand e a k o y q sn wv al yo L = record { is = go (next_of next_lane (lowered x.line k y q) k) refl }
    where
      go : (m : Option ℕ) → next_of next_lane (lowered x.line k y q) k ≡ m → status_next i now e ≡ status_of (phase_at a.after.line i)
      go None t =
          let w : wakes i e ≡ false = ap (some_pass (eqb i)) (wv ∙ ap wakes_values t) in
          sn ∙ rw (w, al ∙ ap (wake (lowered x.line k y q)) t, stored_stand k y L.inside, yo)
      go (Some w) t =
          sn ∙ elim (ℕ_discrete i w) [
            | yes z ↦ rw (names ∙ eq-eqb i w z, lines) (rw z (rw (C.was, now_woken)))
            | no z ↦ rw (names ∙ ne_eqb i w z, lines, other_phase (lowered x.line k y q) w i (woken_phase q (phase_at (lowered x.line k y q) w)) z, stored_stand k y L.inside, yo)
          ]
        where
          C : Chosen x.line k w
          C = chosen x.line G.facts k o y q L w t

          names : wakes i e ≡ eqb i w
          names = ap (some_pass (eqb i)) (wv ∙ ap wakes_values t) ∙ or-false (eqb i w)

          lines : a.after.line ≡ wake (lowered x.line k y q) (Some w)
          lines = al ∙ ap (wake (lowered x.line k y q)) t

          now_woken : phase_at (wake (lowered x.line k y q) (Some w)) w ≡ Phase.Woken C.purpose q
          now_woken = woken_now x.line G.facts k o y q L w t

  -- ---- each step
  -- lane j's own call
  own_stand : (j : ℕ) (y : Phase) (s : Status) → j < x.line.lanes → status_of y ≡ s → cond (eqb j i) s now ≡ status_of (get_or (placed x.line j y) i idle_lane).phase
  own_stand j y s h e = sym (stored_stand j y h ∙ ap (λ (t : Status). cond (eqb j i) t now) e)

  receive_stand : (j : ℕ) (p : Purpose) (v : Place) → j < x.line.lanes → phase_at x.line j ≡ Phase.Woken p v
      → cond (eqb j i) (holding (purpose_for now)) now ≡ status_of (get_or (placed x.line j (Phase.Holding p v)) i idle_lane).phase
  receive_stand j p v h e =
      elim (ℕ_discrete j i) [
        | yes z ↦ rw (eq-eqb j i z, ← z, e, same_phase x.line G.facts.base j (Phase.Holding p v) h)
        | no z ↦ rw (ne_eqb j i z, other_phase x.line j i (Phase.Holding p v) (λ u. z (sym u)))
      ]

  pub stand_event : (e : Event) (d : Entry) (r : Result) → Steps next_lane x (given e) r → Stood now i (shown_entry e d (said_by r.answer)) r
  stand_event e d r (refuses n) = record { is = refl }
  stand_event e d r (opens lanes capacity z a b c f g) =
      record { is = ap status_of (G.facts.base.past i (omega arith)) ∙ sym (ap status_of (fresh_idle lanes capacity i)) }
  stand_event e d r (wants j p h q g m) =
      at_test (λ (t : Result). Stood now i (shown_entry (Event.Want j p) d (said_by t.answer)) t) (others_down x.line j) _ _
      (λ t. record { is = own_stand j (Phase.Holding (purpose_of p) x.line.pointer) (holding p) h (ap holding (number_kept p m)) })
      (λ t. record { is = own_stand j (Phase.Waiting (purpose_of p)) (waiting p) h (ap waiting (number_kept p m)) })
  stand_event e d r (receives j p v h q) = record { is = receive_stand j p v h q }
  stand_event e d r (take_writes j c v h q f) =
      leaves_stand _ _ j (Phase.Holding Purpose.SharedWrite v) (writing c v) (place (v.0 + c)) refl refl refl (busy_off c (Phase.BusyWriting c v) refl) (take_writes_leaving x.line G.facts j c v h q f)
  stand_event e d r (take_reads j c v h q f) =
      leaves_stand _ _ j (Phase.Holding Purpose.SharedRead v) (reading c v) (place (v.0 + c)) refl refl refl (busy_off c (Phase.BusyReading c v) refl) (take_reads_leaving x.line G.facts j c v h q)
  stand_event e d r (writes j content n k h q) =
      record { is = same_stand j (Phase.BusyWriting n k) (one_less (Phase.BusyWriting n k)) h q (busy_off (n - 1) (Phase.BusyWriting (n - 1) (place (k.0 + 1))) refl) }
  stand_event e d r (reads j n k h q) =
      let m = same_stand j (Phase.BusyReading n k) (one_less (Phase.BusyReading n k)) h q (busy_off (n - 1) (Phase.BusyReading (n - 1) (place (k.0 + 1))) refl) in
      by_test (leb (record_end x.line.view k) x.line.size) (λ t. record { is = rw t m }) (λ t. record { is = rw t m })
  stand_event e d r (puts j k content v h q f) = record { is = refl }
  stand_event e d r (looks j k v h q) = by_test (leb (record_end x.line.view k) x.line.size) (λ t. record { is = rw t }) (λ t. record { is = rw t })
  stand_event e d r (frees j v h q) =
      leaves_stand _ _ j (Phase.Holding Purpose.WholeBook v) Phase.Idle x.line.pointer refl refl refl refl (free_leaving x.line G.facts j v h q)
  stand_event e d r (enters j c h q g f) =
      at_test (λ (t : Result). Stood now i (shown_entry (Event.Enter j c) d (said_by t.answer)) t) (all_entered x.line (entered x.line j c)) _ _
      (λ t. record {
        is = ready_off (phase_at x.line i) (all_get_d (on is_idle_or_gathered) x.line.lane i idle_lane g refl)
            ∙ sym (down_off (get_or (started x.line.pointer.0 (entered x.line j c)) i idle_lane).phase (started_by (λ (y : Phase). is_flagged y ≡ false) refl (λ n v. refl) x.line.pointer.0 (entered x.line j c) (entered_all x.line j c g) i));
      })
      (λ t. record { is = same_stand j Phase.Idle (Phase.Gathered c) h q refl })
  stand_event e d r (views displacement extent used blocks z o g) = record { is = refl }
  stand_event e d r (seeks whence offset n z t m g) = record { is = refl }

  pub stand_call : (g : CallBytes) → status_next i now (entry_on x g) ≡ status_of (phase_at (then x g).line i)
  stand_call g = (by_entry x g (Stood now i) (λ d n. record { is = refl }) stand_event).is

-- ---- over a list of calls
pub stands : (gs : List CallBytes) (x : State) → GoodState x → (i : ℕ) → status i (status_of (phase_at x.line i)) (entries next_lane x gs) ≡ status_of (phase_at (after_all next_lane x gs).line i)
unfolding entries status after_by
stands [] x G i = refl
stands (g ∷ gs) x G i = ap (λ (s : Status). status i s (entries next_lane (then x g) gs)) (stand_call x G i g) ∙ stands gs (then x g) (then_good x g G) i
