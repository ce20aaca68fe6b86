-- A lane that waits is not told to wait again before its wake; so a run leaves at most one wait of a lane that has not ended, and that lane waits.
use Prim.Native.Nat.{ℕ, ◌+◌, ◌≤◌}
use mathlib.Core.Path.{◌≡◌, refl, sym, ap, ◌∙◌}
use mathlib.Core.Bool.{true, false}
use mathlib.Core.List.{List, [], ◌∷◌}
use native.Mathlib.Omega.{arith}
use lib.Dec.{leb}
use borrow.Author.Tests.{ne_eqb}
use Rattle.lists.specs.Lists.{bit, some_pass}
use Rattle.lists.proofs.Tests.{at_test, by_test, clash, neither_left, neither_right}
use Rattle.view.specs.View.{record_end}
use Rattle.line.specs.Line.{has_turn, is_waiting, phase_at}
use Rattle.line.specs.declared.Phase.{Phase}
use Rattle.waitlist.specs.NextLane.{next_lane}
use Rattle.event.specs.Event.{given}
use Rattle.event.specs.declared.Event.{Event}
use Rattle.steps.specs.Answer.{said_by}
use Rattle.steps.specs.Effects.{all_entered, entered, others_down}
use Rattle.steps.specs.State.{Result, State}
use Rattle.steps.specs.Step.{after_by, step_by}
use Rattle.steps.proofs.Cases.{Steps, enters, frees, looks, opens, puts, reads, receives, refuses, seeks, take_reads, take_writes, views, wants, writes}
use Rattle.steps.proofs.Keeps.{GoodState}
use Rattle.trace.specs.Trace.{CallBytes, Entry, after_all, call_in, entries, tells_to_wait, wakes}
use Rattle.trace.proofs.Seen.{by_entry, shown_entry}
use Rattle.report.specs.declared.Row.{Row}
use Rattle.report.specs.Growth.{lane_waits, waits_told}
use Rattle.demand3.proofs.Goes.{only_turn}
use Rattle.demand3.proofs.Theorem.{told_waits}
use Rattle.demand3.proofs.Trace.{entry_on, then, then_good, turn_on}
use Rattle.demand3.proofs.Turn.{Turn, differ, nearer, no_release, wakes_waiter}
use Rattle.report.proofs.Lanes.{told_is_caller}
use Rattle.report_laws.proofs.Counting.{none_told_none_counted}

-- ---- one call while lane i waits
module _ (x : State) (i : ℕ) (wi : is_waiting (phase_at x.line i) ≡ true) where
  abbrev Untold : Entry → Result → Type 0
  Untold e r = tells_to_wait i e ≡ false

  untold_event : (e : Event) (d : Entry) (r : Result) → Steps next_lane x (given e) r → Untold (shown_entry e d (said_by r.answer)) r
  untold_event e d r (refuses n) = refl
  untold_event e d r (opens lanes capacity z a b c f g) = refl
  untold_event e d r (wants j p hj q g m) =
      at_test (λ (t : Result). Untold (shown_entry (Event.Want j p) d (said_by t.answer)) t) (others_down x.line j) _ _
      (λ t. rw (ne_eqb j i (λ z. differ is_waiting x.line i j Phase.Idle q refl wi (sym z))))
      (λ t. rw (ne_eqb j i (λ z. differ is_waiting x.line i j Phase.Idle q refl wi (sym z))))
  untold_event e d r (receives j p v hj q) = refl
  untold_event e d r (take_writes j c v hj q f) = refl
  untold_event e d r (take_reads j c v hj q f) = refl
  untold_event e d r (writes j content n k hj q) = refl
  untold_event e d r (reads j n k hj q) = by_test (leb (record_end x.line.view k) x.line.size) (λ t. rw t) (λ t. rw t)
  untold_event e d r (puts j k content v hj q f) = refl
  untold_event e d r (looks j k v hj q) = by_test (leb (record_end x.line.view k) x.line.size) (λ t. rw t) (λ t. rw t)
  untold_event e d r (frees j v hj q) = refl
  untold_event e d r (enters j c hj q g f) = by_test (all_entered x.line (entered x.line j c)) (λ t. rw t) (λ t. rw t)
  untold_event e d r (views displacement extent used blocks z o g) = refl
  untold_event e d r (seeks whence offset n z t m g) = refl

  untold_call : (g : CallBytes) → tells_to_wait i (entry_on x g) ≡ false
  untold_call g = by_entry x g Untold (λ d n. refl) untold_event

-- ---- calls that do not wake lane i, which waits
record StillWaits (i : ℕ) (x : State) (gs : List CallBytes) : Type 0 where
  pub waits : is_waiting (phase_at (after_all next_lane x gs).line i) ≡ true
  pub untold : some_pass (tells_to_wait i) (entries next_lane x gs) ≡ false

still_waits : (gs : List CallBytes) (x : State) (i h : ℕ) → GoodState x → is_waiting (phase_at x.line i) ≡ true → has_turn (phase_at x.line h) ≡ true
    → some_pass (wakes i) (entries next_lane x gs) ≡ false → StillWaits i x gs
unfolding entries after_by
still_waits [] x i h G wi th f = record { waits = wi; untold = refl }
still_waits (g ∷ gs) x i h G wi th f =
    go (turn_on x G i h wi th g) (λ j u v. still_waits gs (then x g) i j (then_good x g G) u v (neither_right (wakes i (entry_on x g)) (some_pass (wakes i) (entries next_lane (then x g) gs)) f))
  where
    more : StillWaits i (then x g) gs → StillWaits i x (g ∷ gs)
    more S = record { waits = S.waits; untold = rw (untold_call x i wi g) S.untold }

    go : Turn x i h (entry_on x g) (step_by next_lane x (call_in g))
        → ((j : ℕ) → is_waiting (phase_at (then x g).line i) ≡ true → has_turn (phase_at (then x g).line j) ≡ true → StillWaits i (then x g) gs) → StillWaits i x (g ∷ gs)
    go (no_release a b n w t) ih = more (ih h w t)
    go (wakes_waiter a b w) ih = clash (sym b ∙ neither_left (wakes i (entry_on x g)) (some_pass (wakes i) (entries next_lane (then x g) gs)) f)
    go (nearer j a b ne n w t near) ih = more (ih j w t)

pub not_told_again : (gs : List CallBytes) (x : State) (i : ℕ) → GoodState x → is_waiting (phase_at x.line i) ≡ true → some_pass (wakes i) (entries next_lane x gs) ≡ false
    → some_pass (tells_to_wait i) (entries next_lane x gs) ≡ false
not_told_again gs x i G wi f = let h = only_turn x.line G.facts i wi in (still_waits gs x i h.0 G wi h.1.has f).untold

-- ---- the waits that have not ended
pub unended_lane_waits : (gs : List CallBytes) (x : State) → GoodState x → (i : ℕ) → (lane_waits i (entries next_lane x gs)).unended ≤ bit (is_waiting (phase_at (after_all next_lane x gs).line i))
unfolding entries waits_told after_by
unended_lane_waits [] x G i = omega arith
unended_lane_waits (g ∷ gs) x G i =
    let ih = unended_lane_waits gs (then x g) (then_good x g G) i in
    by_test (tells_to_wait i (entry_on x g))
    (λ t. by_test (some_pass (wakes (entry_on x g).lane) (entries next_lane (then x g) gs))
    (λ w. rw (t, w) (omega arith))
    (λ w. rw (t, w) (one_unended t w)))
    (λ f. rw f (omega arith))
  where
    -- told by this call and not woken after it: it waits at the end, and no other wait of it is told
    one_unended : tells_to_wait i (entry_on x g) ≡ true → some_pass (wakes (entry_on x g).lane) (entries next_lane (then x g) gs) ≡ false
        → 1 + (lane_waits i (entries next_lane (then x g) gs)).unended ≤ bit (is_waiting (phase_at (after_all next_lane (then x g) gs).line i))
    one_unended t w =
        let waits = told_waits x G g i t in
        let h = only_turn (then x g).line (then_good x g G).facts i waits in
        let u : some_pass (wakes i) (entries next_lane (then x g) gs) ≡ false = ap (λ (k : ℕ). some_pass (wakes k) (entries next_lane (then x g) gs)) (sym (told_is_caller i (entry_on x g) t)) ∙ w in
        let S = still_waits gs (then x g) i h.0 (then_good x g G) waits h.1.has u in
        let z = ap (λ (r : Row). r.unended) (none_told_none_counted (tells_to_wait i) (entries next_lane (then x g) gs) S.untold) in
        rw S.waits (omega arith)
