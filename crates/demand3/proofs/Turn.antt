-- What a step does while a lane waits: nothing, or it wakes that lane, or it wakes one that is nearer to it. And a lane that does not wait.
use Rattle.std.specs.Prelude.{Option, Some, None}
use Prim.Native.Nat.{ℕ, ◌+◌, ◌-◌, ◌<◌}
use mathlib.Core.Path.{◌≡◌, refl, sym, ap, ◌∙◌}
use mathlib.Core.Logic.{◌≢◌, ◌⊎◌, inl, inr}
use mathlib.Core.Bool.{Bool, true, false, cond, ◌&&◌, or-false, or-true}
use native.Mathlib.Omega.{arith}
use native.Mathlib.Decide.{dec_lt, ℕ_discrete}
use lib.ListN.{get_or}
use lib.Dec.{eqb, leb}
use borrow.Author.Tests.{eq-eqb, ne_eqb}
use Rattle.lists.specs.Lists.{all_pass, some_pass, count_pass}
use Rattle.lists.proofs.Tests.{at_test, both, by_test}
use Rattle.lists.proofs.Counts.{all_count, count_find, count_one, count_pos, set_keeps}
use Rattle.view.specs.View.{place, record_end}
use Rattle.view.specs.declared.Place.{Place}
use Rattle.line.specs.declared.Purpose.{Purpose}
use Rattle.line.specs.declared.Phase.{Phase}
use Rattle.line.specs.declared.Line.{Line}
use Rattle.line.specs.Line.{has_turn, idle_lane, is_flagged, is_idle, is_idle_or_gathered, is_waiting, lane, on, phase_at}
use Rattle.line.proofs.Facts.{Facts}
use Rattle.line.proofs.Phases.{waiting_up, numbered}
use Rattle.waitlist.specs.Distance.{distance}
use Rattle.waitlist.specs.NextLane.{next_lane, wakes_values}
use Rattle.event.specs.Event.{given}
use Rattle.event.specs.declared.Event.{Event}
use Rattle.steps.specs.Answer.{said_by}
use Rattle.steps.specs.State.{Result, State}
use Rattle.steps.specs.Effects.{all_entered, entered, lowered, next_of, one_less, others_down, purpose_of, reading, released, wake, woken, writing}
use Rattle.steps.proofs.Cases.{Steps, enters, frees, looks, opens, puts, reads, receives, refuses, seeks, take_reads, take_writes, views, wants, writes}
use Rattle.steps.proofs.Keeps.{GoodState, free_leaving, fresh_idle, others_none, take_reads_leaving, take_writes_leaving}
use Rattle.steps.proofs.Ordered.{busy_by, entered_all, started_by}
use Rattle.steps.proofs.Release.{Chosen, Leaving, alone, chosen, woken_now}
use Rattle.steps.proofs.Stored.{kinds_count, other_phase, placed, ready_count, same_phase, short}
use Rattle.trace.specs.Trace.{Entry, is_release, wakes, wants_by, woken_by}
use Rattle.trace.proofs.Seen.{shown_entry}

-- ---- phases
pub turn_up : (y : Phase) → has_turn y ≡ true → is_flagged y ≡ true
turn_up y e = rw e (or-true (is_waiting y))

pub waits_no_turn : (y : Phase) → is_waiting y ≡ true → has_turn y ≡ false
waits_no_turn y e = rw (numbered y 1 e)

-- ---- lanes of a sound line
-- two lanes that a test tells apart
pub differ : (p : Phase → Bool) (l : Line) (i j : ℕ) (o : Phase) → phase_at l j ≡ o → p o ≡ false → p (phase_at l i) ≡ true → i ≢ j
differ p l i j o e f t z = both t (ap (λ (k : ℕ). p (phase_at l k)) z ∙ ap p e ∙ f)

pub up_inside : (l : Line) → Facts l → (i : ℕ) → is_flagged (phase_at l i) ≡ true → i < l.lanes
up_inside l F i u =
    elim (dec_lt i l.lanes) [ yes h ↦ h | no h ↦ let e : is_flagged (phase_at l i) ≡ false = rw (F.base.past i (omega arith)) in both u e ]

pub up_count : (l : Line) → Facts l → (i : ℕ) → is_flagged (phase_at l i) ≡ true → 0 < count_pass (on is_flagged) l.lane
up_count l F i u = count_pos (on is_flagged) l.lane i idle_lane (short l F.base i (up_inside l F i u)) u

-- two lanes with the turn are one
pub same_turn : (l : Line) → Facts l → (i j : ℕ) → has_turn (phase_at l i) ≡ true → has_turn (phase_at l j) ≡ true → i ≡ j
same_turn l F i j a b =
    let hi = short l F.base i (up_inside l F i (turn_up (phase_at l i) a)) in
    let hj = short l F.base j (up_inside l F j (turn_up (phase_at l j) b)) in
    count_one (on has_turn) l.lane i j idle_lane hi hj a b (omega (arith, F.turn.one))

-- where a flag is up, one lane has the turn
pub turn_found : (l : Line) → Facts l → 0 < count_pass (on is_flagged) l.lane → (h : ℕ) × (has_turn (phase_at l h) ≡ true)
turn_found l F u = let r = count_find (on has_turn) l.lane idle_lane (omega (arith, F.turn.one)) in (r.0, r.2)

-- ---- a step while lane i waits and lane h has the turn
pub data Turn (x : State) (i h : ℕ) (e : Entry) (r : Result) : Type 0 where
  -- no release: both stay as they are
  no_release : is_release e ≡ false → ((j : ℕ) → wakes j e ≡ false) → r.after.line.lanes ≡ x.line.lanes → is_waiting (phase_at r.after.line i) ≡ true
      → has_turn (phase_at r.after.line h) ≡ true → Turn x i h e r
  -- a release that wakes i
  wakes_waiter : is_release e ≡ true → wakes i e ≡ true → is_waiting (phase_at r.after.line i) ≡ false → Turn x i h e r
  -- a release that wakes another lane, nearer to i
  nearer : (w : ℕ) → is_release e ≡ true → ((j : ℕ) → wakes j e ≡ eqb j w) → w ≢ i → r.after.line.lanes ≡ x.line.lanes → is_waiting (phase_at r.after.line i) ≡ true
      → has_turn (phase_at r.after.line w) ≡ true → distance x.line.lanes w i < distance x.line.lanes h i → Turn x i h e r

-- the lanes that a release's values name
woken_lane : (e : Entry) (w j : ℕ) → woken_by e ≡ wakes_values (Some w) → wakes j e ≡ eqb j w
woken_lane e w j q = ap (some_pass (eqb j)) q ∙ or-false (eqb j w)

woken_none : (e : Entry) (j : ℕ) → woken_by e ≡ wakes_values None → wakes j e ≡ false
woken_none e j q = ap (some_pass (eqb j)) q

module _ (x : State) (G : GoodState x) (i h : ℕ) (wi : is_waiting (phase_at x.line i) ≡ true) (th : has_turn (phase_at x.line h) ≡ true) where
  inside : i < x.line.lanes
  inside = up_inside x.line G.facts i (waiting_up (phase_at x.line i) wi)

  some_up : 0 < count_pass (on is_flagged) x.line.lane
  some_up = up_count x.line G.facts i (waiting_up (phase_at x.line i) wi)

  -- another lane's phase changes, one that neither waits nor has the turn
  kept : (k : ℕ) (o y : Phase) → phase_at x.line k ≡ o → is_waiting o ≡ false → has_turn o ≡ false
      → (is_waiting (get_or (placed x.line k y) i idle_lane).phase ≡ true) × (has_turn (get_or (placed x.line k y) h idle_lane).phase ≡ true)
  kept k o y e ow ot =
      (rw (other_phase x.line k i y (differ is_waiting x.line i k o e ow wi)) wi, rw (other_phase x.line k h y (differ has_turn x.line h k o e ot th)) th)

  -- a release by lane k
  leaves_turn : (e : Entry) (a : Result) (k : ℕ) (o y : Phase) (q : Place) → is_release e ≡ true → woken_by e ≡ wakes_values (next_of next_lane (lowered x.line k y q) k)
      → a.after.line ≡ released next_lane (lowered x.line k y q) k → is_waiting o ≡ false → Leaving x.line k o y q → Turn x i h e a
  leaves_turn e a k o y q re wv al ow L = go (next_of next_lane (lowered x.line k y q) k) refl
    where
      l : Line
      l = x.line

      kh : k ≡ h
      kh = same_turn x.line G.facts k h (rw L.was L.turn) th

      ik : i ≢ k
      ik = differ is_waiting x.line i k o L.was ow wi

      still : phase_at (lowered x.line k y q) i ≡ phase_at x.line i
      still = other_phase x.line k i y ik

      go : (m : Option ℕ) → next_of next_lane (lowered x.line k y q) k ≡ m → Turn x i h e a
      go None t = absurd (alone x.line G.facts k o y q L t i inside ik (waiting_up (phase_at x.line i) wi))
      go (Some w) t =
          elim (ℕ_discrete w i) [
            | yes z ↦ wakes_waiter re (names i ∙ eq-eqb i w (sym z)) (rw (lines, ← z, now))
            | no z ↦ nearer w re names z (ap (λ (l : Line). l.lanes) lines)
                (rw (lines, there i (λ u. z (sym u)), still) wi) (rw (lines, now))
                (rw (← kh) (C.nearer i inside (waiting_up (phase_at x.line i) wi) ik (λ u. z (sym u))))
          ]
        where
          C : Chosen x.line k w
          C = chosen x.line G.facts k o y q L w t

          names : (j : ℕ) → wakes j e ≡ eqb j w
          names j = woken_lane e w j (wv ∙ ap wakes_values t)

          lines : a.after.line ≡ wake (lowered x.line k y q) (Some w)
          lines = al ∙ ap (wake (lowered x.line k y q)) t

          now : phase_at (wake (lowered x.line k y q) (Some w)) w ≡ Phase.Woken C.purpose q
          now = woken_now x.line G.facts k o y q L w t

          there : (j : ℕ) → j ≢ w → phase_at (wake (lowered x.line k y q) (Some w)) j ≡ phase_at (lowered x.line k y q) j
          there j n = other_phase (lowered x.line k y q) w j (woken q (phase_at (lowered x.line k y q) w)) n

  -- an ordered call, a change of view or a seek needs that no flag is up
  none_ready : all_pass (on is_idle_or_gathered) x.line.lane ≡ true → ⊥
  none_ready e = omega (arith, some_up, kinds_count x.line.lane, ready_count x.line.lane e)

  none_idle : all_pass (on is_idle) x.line.lane ≡ true → ⊥
  none_idle e = omega (arith, some_up, kinds_count x.line.lane, all_count (on is_idle) x.line.lane e)

  pub turn : (e : Event) (d : Entry) (r : Result) → Steps next_lane x (given e) r → Turn x i h (shown_entry e d (said_by r.answer)) r
  turn e d r (refuses n) = no_release refl (λ j. refl) refl wi th
  turn e d r (opens lanes capacity z a b c f g) = absurd (omega (arith, inside))
  turn e d r (wants j p hj q g m) =
      at_test (λ (t : Result). Turn x i h (shown_entry (Event.Want j p) d (said_by t.answer)) t) (others_down x.line j) _ _
      (λ t. absurd (omega (arith, some_up, others_none x.line G.facts j hj q t)))
      (λ t. let k = kept j Phase.Idle (Phase.Waiting (purpose_of p)) q refl refl in no_release refl (λ m. refl) refl k.0 k.1)
  turn e d r (receives j p v hj q) =
      no_release refl (λ m. refl) refl (rw (other_phase x.line j i (Phase.Holding p v) (differ is_waiting x.line i j (Phase.Woken p v) q refl wi)) wi)
      (let z : h ≡ j = same_turn x.line G.facts h j th (rw q) in rw (z, same_phase x.line G.facts.base j (Phase.Holding p v) hj))
  turn e d r (take_writes j c v hj q f) =
      leaves_turn _ _ j (Phase.Holding Purpose.SharedWrite v) (writing c v) (place (v.0 + c)) refl refl refl refl (take_writes_leaving x.line G.facts j c v hj q f)
  turn e d r (take_reads j c v hj q f) =
      leaves_turn _ _ j (Phase.Holding Purpose.SharedRead v) (reading c v) (place (v.0 + c)) refl refl refl refl (take_reads_leaving x.line G.facts j c v hj q)
  turn e d r (writes j content n k hj q) =
      let m = kept j (Phase.BusyWriting n k) (one_less (Phase.BusyWriting n k)) q refl refl in no_release refl (λ m. refl) refl m.0 m.1
  turn e d r (reads j n k hj q) =
      let m = kept j (Phase.BusyReading n k) (one_less (Phase.BusyReading n k)) q refl refl in
      by_test (leb (record_end x.line.view k) x.line.size) (λ t. rw t (no_release refl (λ m. refl) refl m.0 m.1)) (λ t. rw t (no_release refl (λ m. refl) refl m.0 m.1))
  turn e d r (puts j k content v hj q f) = no_release refl (λ m. refl) refl wi th
  turn e d r (looks j k v hj q) =
      by_test (leb (record_end x.line.view k) x.line.size) (λ t. rw t (no_release refl (λ m. refl) refl wi th)) (λ t. rw t (no_release refl (λ m. refl) refl wi th))
  turn e d r (frees j v hj q) =
      leaves_turn _ _ j (Phase.Holding Purpose.WholeBook v) Phase.Idle x.line.pointer refl refl refl refl (free_leaving x.line G.facts j v hj q)
  turn e d r (enters j c hj q g f) = absurd (none_ready g)
  turn e d r (views displacement extent used blocks z o g) = absurd (none_idle g)
  turn e d r (seeks whence offset n z t m g) = absurd (none_idle g)

-- ---- a lane that does not wait is not woken, and comes to wait only by its own accepted want
pub record Rests (i : ℕ) (e : Entry) (r : Result) : Type 0 where
  pub unwoken : wakes i e ≡ false
  pub unwaiting : (wants_by i e ≡ true) ⊎ (is_waiting (phase_at r.after.line i) ≡ false)

-- a phase after a take or a record used up
busy_waits : (n : ℕ) (y : Phase) → is_waiting y ≡ false → is_waiting (cond (eqb n 0) Phase.Idle y) ≡ false
busy_waits n y e = busy_by (λ (z : Phase). is_waiting z ≡ false) n y (λ z. refl) (λ z. e)

module _ (x : State) (G : GoodState x) (i : ℕ) (wi : is_waiting (phase_at x.line i) ≡ false) where
  -- another phase that does not wait, for any lane
  stays : (k : ℕ) (y : Phase) → is_waiting y ≡ false → is_waiting (get_or (placed x.line k y) i idle_lane).phase ≡ false
  stays k y e = set_keeps (on is_waiting) false x.line.lane k i (lane y) idle_lane e wi

  leaves_rests : (e : Entry) (a : Result) (k : ℕ) (o y : Phase) (q : Place) → woken_by e ≡ wakes_values (next_of next_lane (lowered x.line k y q) k)
      → a.after.line ≡ released next_lane (lowered x.line k y q) k → is_waiting y ≡ false → Leaving x.line k o y q → Rests i e a
  leaves_rests e a k o y q wv al yw L = go (next_of next_lane (lowered x.line k y q) k) refl
    where
      go : (m : Option ℕ) → next_of next_lane (lowered x.line k y q) k ≡ m → Rests i e a
      go None t =
          record { unwoken = woken_none e i (wv ∙ ap wakes_values t); unwaiting = inr (rw (al ∙ ap (wake (lowered x.line k y q)) t) (stays k y yw)) }
      go (Some w) t =
          record {
            unwoken = woken_lane e w i (wv ∙ ap wakes_values t) ∙ ne_eqb i w other;
            unwaiting = inr (rw (al ∙ ap (wake (lowered x.line k y q)) t, other_phase (lowered x.line k y q) w i (woken q (phase_at (lowered x.line k y q) w)) other) (stays k y yw));
          }
        where
          C : Chosen x.line k w
          C = chosen x.line G.facts k o y q L w t

          other : i ≢ w
          other z = both (ap is_waiting C.was) (ap (λ (m : ℕ). is_waiting (phase_at x.line m)) (sym z) ∙ wi)

  -- an accepted want by lane j
  wanted : (j : ℕ) (y : Phase) → (true && eqb j i ≡ true) ⊎ (is_waiting (get_or (placed x.line j y) i idle_lane).phase ≡ false)
  wanted j y =
      elim (ℕ_discrete j i) [ yes z ↦ inl (eq-eqb j i z) | no z ↦ inr (rw (other_phase x.line j i y (λ u. z (sym u))) wi) ]

  pub rests : (e : Event) (d : Entry) (r : Result) → Steps next_lane x (given e) r → Rests i (shown_entry e d (said_by r.answer)) r
  rests e d r (refuses n) = record { unwoken = refl; unwaiting = inr wi }
  rests e d r (opens lanes capacity z a b c f g) = record { unwoken = refl; unwaiting = inr (rw (fresh_idle lanes capacity i)) }
  rests e d r (wants j p hj q g m) =
      at_test (λ (t : Result). Rests i (shown_entry (Event.Want j p) d (said_by t.answer)) t) (others_down x.line j) _ _
      (λ t. record { unwoken = refl; unwaiting = wanted j (Phase.Holding (purpose_of p) x.line.pointer) })
      (λ t. record { unwoken = refl; unwaiting = wanted j (Phase.Waiting (purpose_of p)) })
  rests e d r (receives j p v hj q) = record { unwoken = refl; unwaiting = inr (stays j (Phase.Holding p v) refl) }
  rests e d r (take_writes j c v hj q f) =
      leaves_rests _ _ j (Phase.Holding Purpose.SharedWrite v) (writing c v) (place (v.0 + c)) refl refl (busy_waits c (Phase.BusyWriting c v) refl) (take_writes_leaving x.line G.facts j c v hj q f)
  rests e d r (take_reads j c v hj q f) =
      leaves_rests _ _ j (Phase.Holding Purpose.SharedRead v) (reading c v) (place (v.0 + c)) refl refl (busy_waits c (Phase.BusyReading c v) refl) (take_reads_leaving x.line G.facts j c v hj q)
  rests e d r (writes j content n k hj q) =
      record { unwoken = refl; unwaiting = inr (stays j (one_less (Phase.BusyWriting n k)) (busy_waits (n - 1) (Phase.BusyWriting (n - 1) (place (k.0 + 1))) refl)) }
  rests e d r (reads j n k hj q) =
      let m = stays j (one_less (Phase.BusyReading n k)) (busy_waits (n - 1) (Phase.BusyReading (n - 1) (place (k.0 + 1))) refl) in
      by_test (leb (record_end x.line.view k) x.line.size) (λ t. rw t (record { unwoken = refl; unwaiting = inr m })) (λ t. rw t (record { unwoken = refl; unwaiting = inr m }))
  rests e d r (puts j k content v hj q f) = record { unwoken = refl; unwaiting = inr wi }
  rests e d r (looks j k v hj q) =
      by_test (leb (record_end x.line.view k) x.line.size) (λ t. rw t (record { unwoken = refl; unwaiting = inr wi })) (λ t. rw t (record { unwoken = refl; unwaiting = inr wi }))
  rests e d r (frees j v hj q) =
      leaves_rests _ _ j (Phase.Holding Purpose.WholeBook v) Phase.Idle x.line.pointer refl refl refl (free_leaving x.line G.facts j v hj q)
  rests e d r (enters j c hj q g f) =
      at_test (λ (t : Result). Rests i (shown_entry (Event.Enter j c) d (said_by t.answer)) t) (all_entered x.line (entered x.line j c)) _ _
      (λ t. record { unwoken = refl; unwaiting = inr (started_by (λ (y : Phase). is_waiting y ≡ false) refl (λ n v. refl) x.line.pointer.0 (entered x.line j c) (entered_all x.line j c g) i) })
      (λ t. record { unwoken = refl; unwaiting = inr (stays j (Phase.Gathered c) refl) })
  rests e d r (views displacement extent used blocks z o g) = record { unwoken = refl; unwaiting = inr wi }
  rests e d r (seeks whence offset n z t m g) = record { unwoken = refl; unwaiting = inr wi }
