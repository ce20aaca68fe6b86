-- A call from a sound line: what its entry shows of its answer, that no lane is told to wait while it is marked, and that a lane that does not wait has no mark.
use Rattle.std.specs.Prelude.{Option, Some, None}
use Prim.Native.Nat.{ℕ, ◌+◌, ◌*◌, ◌≤◌, ◌<◌}
use mathlib.Core.Path.{◌≡◌, refl, sym, ap, ◌∙◌}
use mathlib.Core.Logic.{◌≢◌}
use mathlib.Core.Bool.{Bool, true, false, ◌&&◌}
use mathlib.Core.List.{List, [], ◌∷◌}
use native.Mathlib.Omega.{arith}
use native.Mathlib.Decide.{ℕ_discrete}
use lib.ListN.{get_or}
use lib.Dec.{eqb, leb}
use Rattle.limits.specs.Limits.{most_lanes}
use borrow.Author.Tests.{eqb-true}
use Rattle.lists.proofs.Tests.{at_test, both, by_test, clash}
use Rattle.lists.proofs.Counts.{all_get_d}
use Rattle.view.specs.View.{place, record_end}
use Rattle.view.specs.declared.Place.{Place}
use Rattle.line.specs.declared.Purpose.{Purpose}
use Rattle.line.specs.declared.Phase.{Phase}
use Rattle.line.specs.Line.{idle_lane, is_idle_or_gathered, is_waiting, on, phase_at}
use Rattle.waitlist.specs.NextLane.{next_lane}
use Rattle.event.specs.Event.{given}
use Rattle.event.specs.declared.Event.{Event}
use Rattle.steps.specs.Answer.{said_by}
use Rattle.steps.specs.State.{Result, State}
use Rattle.steps.specs.Effects.{all_entered, entered, lowered, next_of, one_less, others_down, purpose_of, reading, released, wake, woken, writing}
use Rattle.steps.specs.Step.{step_by}
use Rattle.steps.proofs.Cases.{Steps, enters, frees, looks, opens, puts, reads, receives, refuses, seeks, take_reads, take_writes, views, wants, writes}
use Rattle.steps.proofs.Keeps.{GoodState, free_leaving, take_reads_leaving, take_writes_leaving}
use Rattle.steps.proofs.Release.{Chosen, Leaving, chosen}
use Rattle.steps.proofs.Stored.{other_phase, placed, same_phase}
use Rattle.changes.specs.Change.{entry_of}
use Rattle.changes.proofs.Steps.{entry_is}
use Rattle.trace.specs.Trace.{CallBytes, Entry, call_in, entry, is_release, said_to, tells_to_wait, woken_by}
use Rattle.trace.proofs.Seen.{by_entry, shown_entry}
use Rattle.wait_counts.specs.Counts.{Consistent, Sign, counted, counted_by, ended, mark_in, neither, one_release, releases, releases_at, releases_in, sign_of, waits}
use Rattle.wait_counts.specs.Counting.{Counting, Marked, SameTotals}
use Rattle.wait_counts.proofs.Totals.{Proper, Shows, total_step}
use Rattle.wait_counts.proofs.Slots.{ended_mark, ended_releases, ended_consistent, ended_slot, release_count, release_consistent, release_slot, told_consistent, told_slot}

-- what a call gives, with its entry, from counts c on
pub record Next (c : List ℕ) (e : Entry) (r : Result) : Type 0 where
  pub shows : Shows e (sign_of r.answer)
  pub proper : Proper c e.lane (sign_of r.answer)
  pub marked : Marked r.after (counted c e.lane r.answer)

-- ---- what an entry shows
and_true : (b : Bool) → (b && true) ≡ b
and_true true = refl
and_true false = refl

and_false : (b : Bool) → (b && false) ≡ false
and_false true = refl
and_false false = refl

-- neither a want that waits nor a release
quiet : (e : Entry) → ((i : ℕ) → tells_to_wait i e ≡ false) → is_release e ≡ false → woken_by e ≡ [] → Shows e neither
quiet e t r w = record { tells = t; release = r; woken = w }

ready_waits : (y : Phase) → is_idle_or_gathered y ≡ true → is_waiting y ≡ false
ready_waits Phase.Idle e = refl
ready_waits (Phase.Waiting p) e = clash (sym e)
ready_waits (Phase.Woken p v) e = refl
ready_waits (Phase.Holding p v) e = refl
ready_waits (Phase.BusyWriting n k) e = refl
ready_waits (Phase.BusyReading n k) e = refl
ready_waits (Phase.Gathered n) e = refl

-- ---- a call
module _ (x : State) (G : GoodState x) (c : List ℕ) (S : Consistent c) (M : Marked x c) where
  -- a lane that does not wait gets another phase
  moved : (k : ℕ) (o y : Phase) → phase_at x.line k ≡ o → is_waiting o ≡ false
      → (j : ℕ) → j < most_lanes → is_waiting (get_or (placed x.line k y) j idle_lane).phase ≡ false → mark_in c j ≡ 0
  moved k o y e ow j b h = elim (ℕ_discrete j k) [
    | yes q ↦ M j b (ap (λ (m : ℕ). is_waiting (phase_at x.line m)) q ∙ ap is_waiting e ∙ ow)
    | no n ↦ M j b (ap is_waiting (sym (other_phase x.line k j y n)) ∙ h)
  ]

  -- marks after a release that wakes lane w
  woken_own : (w : ℕ) → w < most_lanes → mark_in (ended (one_release c) w) w ≡ 0
  woken_own w b =
      by_test (eqb (mark_in (one_release c) w) 0) (λ t. rw t (eqb-true (mark_in (one_release c) w) 0 t)) (λ t. rw t (ended_mark (one_release c) (release_consistent c S) w _ b))

  woken_other : (w j : ℕ) → w < most_lanes → j < most_lanes → j ≢ w → mark_in (ended (one_release c) w) j ≡ mark_in c j
  woken_other w j b d n =
      by_test (eqb (mark_in (one_release c) w) 0) (λ t. rw t (release_slot c S (4 * j) (omega arith)))
      (λ t. rw t (ended_slot (one_release c) (release_consistent c S) w _ b (4 * j) (λ k f q. n (omega arith)) ∙ release_slot c S (4 * j) (omega arith)))

  -- a release by lane k
  leaves_marked : (e : Entry) (a : Result) (k : ℕ) (o y : Phase) (q : Place) → Shows e (releases (next_of next_lane (lowered x.line k y q) k)) → sign_of a.answer ≡ releases (next_of next_lane (lowered x.line k y q) k)
      → a.after.line ≡ released next_lane (lowered x.line k y q) k → is_waiting o ≡ false → Leaving x.line k o y q → Next c e a
  leaves_marked e a k o y q shows sign al ow L = go (next_of next_lane (lowered x.line k y q) k) refl
    where
      go : (m : Option ℕ) → next_of next_lane (lowered x.line k y q) k ≡ m → Next c e a
      go None t =
          record {
            shows = rw sign shows;
            proper = rw (sign ∙ ap releases t) tt;
            marked = rw (sign ∙ ap releases t) (λ j b h. release_slot c S (4 * j) (omega arith) ∙ moved k o y L.was ow j b (rw (al ∙ ap (wake (lowered x.line k y q)) t) at h));
          }
      go (Some w) t =
          record {
            shows = rw sign shows;
            proper = rw (sign ∙ ap releases t) below;
            marked = rw (sign ∙ ap releases t, ← entry_is w below) (λ j b h. elim (ℕ_discrete j w) [
              | yes z ↦ rw z (woken_own w below)
              | no n ↦ woken_other w j below b n ∙ moved k o y L.was ow j b (sym (ap is_waiting (other_phase (lowered x.line k y q) w j (woken q (phase_at (lowered x.line k y q) w)) n)) ∙ rw (al ∙ ap (wake (lowered x.line k y q)) t) at h)
            ]);
          }
        where
          C : Chosen x.line k w
          C = chosen x.line G.facts k o y q L w t

          below : w < most_lanes
          below = omega (arith, C.inside, G.facts.base.lanes_fit)

  -- a call that counts nothing, and leaves what does not wait as it is
  same : (e : Entry) (r : Result) → Shows e neither → sign_of r.answer ≡ neither → Marked r.after c → Next c e r
  same e r shows sign marked = record { shows = rw sign shows; proper = rw sign tt; marked = rw sign marked }

  next : (e : Event) (d : Entry) (r : Result) → Steps next_lane x (given e) r → Next c (shown_entry e d (said_by r.answer)) r
  next e d r (refuses n) = same _ _ (quiet _ (λ i. refl) refl refl) refl M
  next e d r (opens lanes capacity z a b f g h) = same _ _ (quiet _ (λ i. refl) refl refl) refl (λ j u v. M j u (rw (G.facts.base.past j (omega arith))))
  next e d r (wants i p hi q g m) =
      at_test (λ (t : Result). Next c (shown_entry (Event.Want i p) d (said_by t.answer)) t) (others_down x.line i) _ _
      (λ t. same _ _ (quiet _ (λ k. and_false (eqb i k)) refl refl) refl (moved i Phase.Idle (Phase.Holding (purpose_of p) x.line.pointer) q refl))
      (λ t. record {
        shows = record { tells = λ k. and_true (eqb i k); release = refl; woken = refl };
        proper = (below, M i below (rw q));
        marked = λ j b h. elim (ℕ_discrete j i) [
          | yes z ↦ both (rw (z, same_phase x.line G.facts.base i (Phase.Waiting (purpose_of p)) hi)) h
          | no n ↦ told_slot c S i below (4 * j) (λ k. n (omega arith)) ∙ M j b (ap is_waiting (sym (other_phase x.line i j (Phase.Waiting (purpose_of p)) n)) ∙ h)
        ];
      })
    where
      below : i < most_lanes
      below = omega (arith, hi, G.facts.base.lanes_fit)
  next e d r (receives i p v hi q) = same _ _ (quiet _ (λ k. refl) refl refl) refl (moved i (Phase.Woken p v) (Phase.Holding p v) q refl)
  next e d r (take_writes i n v hi q f) =
      leaves_marked _ _ i (Phase.Holding Purpose.SharedWrite v) (writing n v) (place (v.0 + n)) (record { tells = λ k. refl; release = refl; woken = refl }) refl refl refl (take_writes_leaving x.line G.facts i n v hi q f)
  next e d r (take_reads i n v hi q f) =
      leaves_marked _ _ i (Phase.Holding Purpose.SharedRead v) (reading n v) (place (v.0 + n)) (record { tells = λ k. refl; release = refl; woken = refl }) refl refl refl (take_reads_leaving x.line G.facts i n v hi q)
  next e d r (writes i content n k hi q) = same _ _ (quiet _ (λ k. refl) refl refl) refl (moved i (Phase.BusyWriting n k) (one_less (Phase.BusyWriting n k)) q refl)
  next e d r (reads i n k hi q) =
      let m = moved i (Phase.BusyReading n k) (one_less (Phase.BusyReading n k)) q refl in
      by_test (leb (record_end x.line.view k) x.line.size) (λ t. rw t (same _ _ (quiet _ (λ k. refl) refl refl) refl m)) (λ t. rw t (same _ _ (quiet _ (λ k. refl) refl refl) refl m))
  next e d r (puts i k content v hi q f) = same _ _ (quiet _ (λ k. refl) refl refl) refl M
  next e d r (looks i k v hi q) =
      by_test (leb (record_end x.line.view k) x.line.size) (λ t. rw t (same _ _ (quiet _ (λ k. refl) refl refl) refl M)) (λ t. rw t (same _ _ (quiet _ (λ k. refl) refl refl) refl M))
  next e d r (frees i v hi q) =
      leaves_marked _ _ i (Phase.Holding Purpose.WholeBook v) Phase.Idle x.line.pointer (record { tells = λ k. refl; release = refl; woken = refl }) refl refl refl (free_leaving x.line G.facts i v hi q)
  next e d r (enters i n hi q g f) =
      let m : (j : ℕ) → j < most_lanes → mark_in c j ≡ 0 = λ j b. M j b (ready_waits (phase_at x.line j) (all_get_d (on is_idle_or_gathered) x.line.lane j idle_lane g refl)) in
      at_test (λ (t : Result). Next c (shown_entry (Event.Enter i n) d (said_by t.answer)) t) (all_entered x.line (entered x.line i n)) _ _
      (λ t. same _ _ (quiet _ (λ k. refl) refl refl) refl (λ j b h. m j b)) (λ t. same _ _ (quiet _ (λ k. refl) refl refl) refl (λ j b h. m j b))
  next e d r (views displacement extent used blocks z o g) = same _ _ (quiet _ (λ k. refl) refl refl) refl M
  next e d r (seeks whence offset n z t m g) = same _ _ (quiet _ (λ k. refl) refl refl) refl M

  -- a call as bytes
  pub next_call : (g : CallBytes) → Next c (entry g (said_to next_lane x g)) (step_by next_lane x (call_in g))
  next_call g = by_entry x g (Next c) (λ d n. same _ _ (quiet _ (λ i. refl) refl refl) refl M) next

-- ---- one call of a run: the counts after it, with what is left of the run, say the same
pub record Goes (c : List ℕ) (e : Entry) (r : Result) : Type 0 where
  pub counting : Counting r.after (counted c e.lane r.answer)
  pub totals : (later : List Entry) → SameTotals (counted c e.lane r.answer) later c (e ∷ later)
  pub releases : releases_in (counted c e.lane r.answer) ≤ releases_in c + 1
  -- by the entry in the arrays that stands for the lane
  pub own : counted c (entry_of e.lane) r.answer ≡ counted c e.lane r.answer

counted_consistent : (c : List ℕ) (i : ℕ) (s : Sign) → Consistent c → Proper c i s → Consistent (counted_by c i s)
counted_consistent c i waits S P = told_consistent c S i P.0
counted_consistent c i (releases None) S P = release_consistent c S
counted_consistent c i (releases (Some w)) S P =
    rw (← entry_is w P) (ended_consistent (one_release c) (release_consistent c S) w P (rw (release_slot c S (4 * w) (omega arith), release_count c S) (S.mark w P)))
counted_consistent c i neither S P = S

counted_releases : (c : List ℕ) (i : ℕ) (s : Sign) → Consistent c → Proper c i s → releases_in (counted_by c i s) ≤ releases_in c + 1
counted_releases c i waits S P = rw (told_slot c S i P.0 releases_at (λ q. absurd (omega arith))) (omega arith)
counted_releases c i (releases None) S P = rw (release_count c S) (omega arith)
counted_releases c i (releases (Some w)) S P =
    rw (← entry_is w P)
    (by_test (eqb (mark_in (one_release c) w) 0) (λ t. rw (t, release_count c S) (omega arith))
    (λ t. rw (t, ended_releases (one_release c) (release_consistent c S) w _ P, release_count c S) (omega arith)))
counted_releases c i neither S P = omega arith

counted_own : (c : List ℕ) (i : ℕ) (s : Sign) → Proper c i s → counted_by c (entry_of i) s ≡ counted_by c i s
counted_own c i waits P = rw (← entry_is i P.0)
counted_own c i (releases w) P = refl
counted_own c i neither P = refl

pub goes : (x : State) → GoodState x → (c : List ℕ) → Counting x c → (g : CallBytes) → Goes c (entry g (said_to next_lane x g)) (step_by next_lane x (call_in g))
goes x G c C g =
    let N = next_call x G c C.consistent C.marked g in
    let e = entry g (said_to next_lane x g) in
    let s = sign_of (step_by next_lane x (call_in g)).answer in
    record {
      counting = record { consistent = counted_consistent c e.lane s C.consistent N.proper; marked = N.marked };
      totals = λ later i h. sym (total_step c C.consistent i h e later s N.shows N.proper);
      releases = counted_releases c e.lane s C.consistent N.proper;
      own = counted_own c e.lane s N.proper;
    }
