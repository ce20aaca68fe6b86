-- Demand 3 holds of every list of calls, from an unopened line and any lent bytes.
use Prim.Native.Nat.{ℕ, ◌+◌, ◌-◌}
use mathlib.Core.Path.{◌≡◌, refl, sym, ap, ◌∙◌}
use mathlib.Core.Bool.{true, cond}
use mathlib.Core.List.{List, [], ◌∷◌, ◌++◌}
use native.Mathlib.Omega.{arith}
use lib.Dec.{leb}
use Rattle.lists.specs.Lists.{count_pass}
use Rattle.lists.proofs.Tests.{and_left, and_right, by_test}
use Rattle.view.specs.View.{record_end}
use Rattle.line.specs.declared.Phase.{Phase}
use Rattle.line.specs.declared.Purpose.{Purpose}
use Rattle.line.specs.Line.{phase_at}
use Rattle.line.specs.Line as phases
use Rattle.waitlist.specs.NextLane.{next_lane}
use Rattle.event.specs.Event.{given}
use Rattle.event.specs.declared.Event.{Event}
use Rattle.steps.specs.Answer.{said_by}
use Rattle.steps.specs.State.{Result, State, fresh}
use Rattle.steps.specs.Effects.{all_entered, entered, freed, next_of, others_down, taken}
use Rattle.steps.specs.Step.{after_by}
use Rattle.steps.proofs.Cases.{Steps, enters, frees, looks, opens, puts, reads, receives, refuses, seeks, take_reads, take_writes, views, wants, writes}
use Rattle.steps.proofs.Keeps.{GoodState, fresh_idle, unopened_good}
use Rattle.steps.proofs.Lanes.{wake_lanes}
use Rattle.trace.specs.Trace.{Entry, CallBytes, after_all, answers_waits, entries, is_accepted, is_reset, lanes_in, tells_to_wait, value, wants_by}
use Rattle.demand3.specs.Claim.{CountTold, DemandThree, InOrder, NextAccepted, OneTurn, OnlyTurn, Status, WaitEnds, entries_after, entered_after, entries_of, entry_after, grants, hands_out, status_has_turn, status_waits, off, status, status_next, waiting}
use Rattle.demand3.proofs.Goes.{OnlyPhase, goes, only_turn}
use Rattle.demand3.proofs.Places.{all_placed, count_told, gathers_all, start_gathers, total}
use Rattle.trace.proofs.Seen.{by_entry, shown_entry}
use Rattle.demand3.proofs.Status.{stand_call, status_of, stands, turn_is, waits_is}
use Rattle.demand3.proofs.Trace.{entry_on, fair, sent, single, then, then_good}

-- ---- the states along a list
pub after_good : (gs : List CallBytes) (x : State) → GoodState x → GoodState (after_all next_lane x gs)
unfolding after_by
after_good [] x G = G
after_good (g ∷ gs) x G = after_good gs (then x g) (then_good x g G)

after_append : (a b : List CallBytes) (x : State) → after_all next_lane x (a ++ b) ≡ after_all next_lane (after_all next_lane x a) b
unfolding after_by
after_append [] b x = refl
after_append (g ∷ a) b x = after_append a b (then x g)

pub after_one : (early : List CallBytes) (g : CallBytes) (x : State) → after_all next_lane x (early ++ g ∷ []) ≡ then (after_all next_lane x early) g
unfolding after_by
after_one early g x = after_append early (g ∷ []) x

-- ---- N, by the answers
lanes_call : (x : State) (g : CallBytes) → cond (is_accepted 0x01 (entry_on x g)) (value 0 (entry_on x g)) x.line.lanes ≡ (then x g).line.lanes
lanes_call x g =
    by_entry x g (λ (e : Entry) (r : Result). cond (is_accepted 0x01 e) (value 0 e) x.line.lanes ≡ r.after.line.lanes) (λ d n. refl) lanes_event
  where
    lanes_event : (e : Event) (d : Entry) (r : Result) → Steps next_lane x (given e) r → cond (is_accepted 0x01 (shown_entry e d (said_by r.answer))) (value 0 (shown_entry e d (said_by r.answer))) x.line.lanes ≡ r.after.line.lanes
    lanes_event e d r (refuses n) = refl
    lanes_event e d r (opens lanes capacity z a b c i h) = refl
    lanes_event e d r (wants j p h q i m) = by_test (others_down x.line j) (λ t. rw t) (λ t. rw t)
    lanes_event e d r (receives j p v h q) = refl
    lanes_event e d r (take_writes j c v h q i) = let t = taken x.line j c (Phase.Holding Purpose.SharedWrite v) in sym (wake_lanes t (next_of next_lane t j))
    lanes_event e d r (take_reads j c v h q i) = let t = taken x.line j c (Phase.Holding Purpose.SharedRead v) in sym (wake_lanes t (next_of next_lane t j))
    lanes_event e d r (writes j content n k h q) = refl
    lanes_event e d r (reads j n k h q) = by_test (leb (record_end x.line.view k) x.line.size) (λ t. rw t) (λ t. rw t)
    lanes_event e d r (puts j k content v h q i) = refl
    lanes_event e d r (looks j k v h q) = by_test (leb (record_end x.line.view k) x.line.size) (λ t. rw t) (λ t. rw t)
    lanes_event e d r (frees j v h q) = let t = freed x.line j in sym (wake_lanes t (next_of next_lane t j))
    lanes_event e d r (enters j c h q i o) = by_test (all_entered x.line (entered x.line j c)) (λ t. rw t) (λ t. rw t)
    lanes_event e d r (views displacement extent used blocks z o i) = refl
    lanes_event e d r (seeks whence offset n z t m i) = refl

lanes_are : (gs : List CallBytes) (x : State) → lanes_in x.line.lanes (entries next_lane x gs) ≡ (after_all next_lane x gs).line.lanes
unfolding entries lanes_in after_by
lanes_are [] x = refl
lanes_are (g ∷ gs) x = ap (λ (n : ℕ). lanes_in n (entries next_lane (then x g) gs)) (lanes_call x g) ∙ lanes_are gs (then x g)

-- ---- the call that tells lane i to wait leaves it waiting
pub told_waits : (x : State) → GoodState x → (told : CallBytes) (i : ℕ) → tells_to_wait i (entry_on x told) ≡ true → phases.is_waiting (phase_at (then x told).line i) ≡ true
told_waits x G told i t =
    let e = entry_on x told in
    let w : wants_by i e ≡ true = and_left (wants_by i e) _ t in
    let a : answers_waits e ≡ true = and_right (wants_by i e) (answers_waits e) t in
    let s : status_next i (status_of (phase_at x.line i)) e ≡ waiting e.purpose = rw (w, a) in
    sym (waits_is (phase_at (then x told).line i)) ∙ ap status_waits (sym (stand_call x G i told) ∙ s)

-- ---- what is claimed after the calls `early`
module _ (book : List ℕ) (early : List CallBytes) where
  abbrev pub here : State
  here = after_all next_lane (fresh book) early

  pub good : GoodState here
  good = after_good early (fresh book) (unopened_good book)

  pub stood : (i : ℕ) → status i off (entries_of next_lane book early) ≡ status_of (phase_at here.line i)
  stood i =
      ap (λ (s : Status). status i s (entries_of next_lane book early)) (sym (ap status_of (fresh_idle 0 0 i))) ∙ stands early (fresh book) (unopened_good book) i

  pub lanes_here : lanes_in 0 (entries_of next_lane book early) ≡ here.line.lanes
  lanes_here = lanes_are early (fresh book)

  waits_here : (i : ℕ) → status_waits (status i off (entries_of next_lane book early)) ≡ true → phases.is_waiting (phase_at here.line i) ≡ true
  waits_here i w = sym (waits_is (phase_at here.line i)) ∙ ap status_waits (sym (stood i)) ∙ w

  one_turn : (h : ℕ) → OnlyPhase here.line h → OnlyTurn (entries_of next_lane book early) h
  one_turn h a =
      record {
        has = ap status_has_turn (stood h) ∙ turn_is (phase_at here.line h) ∙ a.has;
        only = λ j t. a.only j (sym (turn_is (phase_at here.line j)) ∙ ap status_has_turn (sym (stood j)) ∙ t);
      }

  turn_here : (i : ℕ) → status_waits (status i off (entries_of next_lane book early)) ≡ true → OneTurn next_lane book early
  turn_here i w = let h = only_turn here.line good.facts i (waits_here i w) in record { holder = h.0; one = one_turn h.0 h.1 }

  goes_here : (h : ℕ) → status_has_turn (status h off (entries_of next_lane book early)) ≡ true → NextAccepted next_lane book early h
  goes_here h t = rw (stood h) (goes here good h (sym (turn_is (phase_at here.line h)) ∙ ap status_has_turn (sym (stood h)) ∙ t))

  wait_ends : (i : ℕ) (later : List CallBytes) → phases.is_waiting (phase_at here.line i) ≡ true → WaitEnds next_lane book i early later
  wait_ends i later w =
      let h = only_turn here.line good.facts i w in
      record {
        holder = h.0;
        one = one_turn h.0 h.1;
        sent = λ d. sent later here i h.0 good w h.1.has (rw lanes_here at d);
        single = single later here i h.0 good w h.1.has;
        others_once = λ z j. (fair later here i h.0 j good w h.1.has z).0;
      }

-- ---- the places
module _ (book : List ℕ) (early later : List CallBytes) (first : CallBytes) where
  abbrev begun : List CallBytes
  begun = early ++ first ∷ []

  placed_here : count_pass is_reset (entries_after next_lane book begun later) ≡ 0 → InOrder next_lane book begun later
  placed_here z =
      let ns = entered_after [] (entries_of next_lane book begun) in
      let P = all_placed later (here book begun) ns (good book begun) (gathers_all begun (fresh book) [] (unopened_good book) (start_gathers book)) z in
      let last = ap (λ (x : State). x.line.pointer.0) (after_append begun later (fresh book)) ∙ P.last in
      let n = lanes_here book begun in
      let m : (here book (begun ++ later)).line.pointer.0 - (here book begun).line.pointer.0 ≡ total (grants (here book begun).line.lanes ns (entries_after next_lane book begun later)) = omega (arith, last) in
      record { places = rw (n, m) P.in_order; last = rw n last }

-- ---- the counts that are answered
told_here : (book : List ℕ) (early : List CallBytes) (g : CallBytes) → hands_out (entry_after next_lane book early g) ≡ true → CountTold next_lane book early g
told_here book early g t =
    let C = gathers_all early (fresh book) [] (unopened_good book) (start_gathers book) in
    rw (lanes_here book early) (count_told (here book early) (good book early) (entered_after [] (entries_of next_lane book early)) C g t)

pub demand_three : DemandThree
demand_three book calls =
    record {
      waits_end = λ early later rest told i q t. wait_ends book (early ++ told ∷ []) i later (rw (after_one early told (fresh book)) (told_waits (here book early) (good book early) told i t));
      one_turn = λ early rest i q w. turn_here book early i w;
      goes_on = λ early rest h q t. goes_here book early h t;
      in_order = λ early later rest first q r z. placed_here book early later first z;
      counts_told = λ early rest g q t. told_here book early g t;
    }
