-- Edges of the steps: what the mistakes that document 01 names, and others near them, would break.
use Rattle.std.specs.Prelude.{Option, Some, None}
use Prim.Native.Nat.{ℕ, zero, suc, ◌+◌, ◌-◌, ◌≤◌, ◌<◌}
use mathlib.Core.Path.{◌≡◌, refl, sym, ap, ◌∙◌}
use mathlib.Core.Logic.{◌≢◌}
use mathlib.Core.Bool.{Bool, true, false, cond, not}
use mathlib.Core.List.{List, [], ◌∷◌}
use native.Mathlib.Omega.{arith}
use native.Mathlib.Nat.{add-zero}
use lib.ListN.{drop, get_or, length, replicate, set, take, length-replicate, get_or-replicate, length-set, get_or-append}
use lib.Seq.{get_or-append-add, get_or-drop, get_or-set_other, get_or-set_same, sets}
use lib.IntN.{negsuc}
use lib.Dec.{eqb, leb}
use borrow.Author.Tests.{eqb-false, eqb-true, le-leb, le-ltb, lt-leb, lt-ltb, ne_eqb}
use Rattle.lists.specs.Lists.{all_pass, some_pass}
use Rattle.lists.proofs.Tests.{by_test, clash}
use Rattle.lists.proofs.Counts.{all_get_d}
use Rattle.view.specs.View.{place, position_of, record_end}
use Rattle.view.specs.declared.Place.{Place}
use Rattle.line.specs.declared.Purpose.{Purpose}
use Rattle.line.specs.declared.Phase.{Phase}
use Rattle.line.specs.declared.Lane.{Lane}
use Rattle.line.specs.declared.Line.{Line}
use Rattle.limits.specs.Limits.{most_pointer}
use Rattle.line.specs.Line.{count_in, idle_lane, is_gathered, is_idle, is_waiting, is_woken, lane, on, phase_at, place_in}
use Rattle.line.specs.Sound.{gathered_total, sound}
use Rattle.waitlist.specs.NextLane.{first_raised, next_lane}
use Rattle.event.specs.BigEndian.{big_endian, number_of}
use Rattle.event.specs.Event.{given}
use Rattle.event.specs.declared.Event.{Event}
use Rattle.steps.specs.Answer.{said_by}
use Rattle.steps.specs.State.{Result, State, leaves, with_pointer}
use Rattle.steps.specs.Effects.{Search, all_entered, busy_for, content_at, effect, entered, lowered, next_of, others_down, reading, record_at, released, started, started_at, wake}
use Rattle.steps.specs.Step.{refuse, step_by}
use Rattle.steps.specs.declared.Answer.{Answer}
use Rattle.steps.proofs.CheckingOrder.{Decided, accepted, accepted_none, decided, none_accepted, refused}
use Rattle.steps.proofs.Stored.{other_phase, placed}
use Rattle.steps.proofs.Chains.{at_lane_lem, receive_chain, seek_chain, take_chain, want_chain, when_open_lem}

-- ---- accepted events
abbrev pub Accepts : Search → State → Event → Type 0
Accepts search x e = (said_by (step_by search x (given e)).answer).accepted ≡ true

abbrev pub left_by : Search → State → Event → State
left_by search x e = (step_by search x (given e)).after

pub takes_effect : (search : Search) (x : State) (e : Event) → Accepts search x e → step_by search x (given e) ≡ effect search x e
takes_effect search x e a = none_accepted search x (given e) (accepted_none search x (given e) a)

-- a fact of the effect is one of the step
pub by_effect : (search : Search) (x : State) (e : Event) (P : Result → Type 0) → Accepts search x e → P (effect search x e) → P (step_by search x (given e))
by_effect search x e P a p = rw (takes_effect search x e a) p

-- ---- a take writes no record: writes come after the release
pub take_keeps_book : (search : Search) (x : State) (i c : ℕ) → Accepts search x (Event.Take i c) → (left_by search x (Event.Take i c)).book ≡ x.book
take_keeps_book search x i c a = by_effect search x (Event.Take i c) (λ (r : Result). r.after.book ≡ x.book) a refl

-- ---- the position at which a record is written or read is the view's for its place, and no other
-- the record is put at place k
pub record Written (x : State) (k : Place) (content : ℕ) (r : Result) : Type 0 where
  pub answers : r.answer ≡ Answer.Wrote (position_of x.line.view k)
  pub book : r.after.book ≡ sets x.book (position_of x.line.view k).0 (big_endian 8 content)

-- a record that is answered is the one at place k
abbrev pub FoundAt : State → Place → Result → Type 0
FoundAt x k r = (content : ℕ) → r.answer ≡ Answer.Record content → content ≡ number_of (take 8 (drop (position_of x.line.view k).0 x.book))

pub record PositionsByView (search : Search) (x : State) : Type 0 where
  pub write : (i content : ℕ) → Accepts search x (Event.Write i content)
      → Written x (place_in (phase_at x.line i)) content (step_by search x (given (Event.Write i content)))
  pub put : (i : ℕ) (k : Place) (content : ℕ) → Accepts search x (Event.Put i k content) → Written x k content (step_by search x (given (Event.Put i k content)))
  pub read : (i : ℕ) → FoundAt x (place_in (phase_at x.line i)) (step_by search x (given (Event.Read i)))
  pub look : (i : ℕ) (k : Place) → FoundAt x k (step_by search x (given (Event.Look i k)))

record_found : (x : State) (k : Place) (content : ℕ) → record_at x k ≡ Answer.Record content → content ≡ number_of (take 8 (drop (position_of x.line.view k).0 x.book))
record_found x k content e =
    by_test (leb (record_end x.line.view k) x.line.size)
    (λ t. let q = rw t at e in cc)
    (λ f. let q = rw f at e in let z : ◌≡◌ {A = ℕ} 0 1 = cc in absurd (omega arith))

pub positions_by_view : (search : Search) (x : State) → PositionsByView search x
positions_by_view search x =
    record {
      write = λ i content a. by_effect search x (Event.Write i content) (λ (r : Result). Written x (place_in (phase_at x.line i)) content r) a (record { answers = refl; book = refl });
      put = λ i k content a. by_effect search x (Event.Put i k content) (λ (r : Result). Written x k content r) a (record { answers = refl; book = refl });
      read = λ i content e. by_effect search x (Event.Read i) (λ (r : Result). FoundAt x (place_in (phase_at x.line i)) r) (ap (λ (a : Answer). (said_by a).accepted) e) (record_found x (place_in (phase_at x.line i))) content e;
      look = λ i k content e. by_effect search x (Event.Look i k) (λ (r : Result). FoundAt x k r) (ap (λ (a : Answer). (said_by a).accepted) e) (record_found x k) content e;
    }

-- ---- 01: the book's capacity bytes are 0, the others as they were
pub open_zeroes : (search : Search) (x : State) (lanes capacity : ℕ) → Accepts search x (Event.Open lanes capacity)
    → (j : ℕ) → j < capacity → get_or (left_by search x (Event.Open lanes capacity)).book j 0 ≡ 0
open_zeroes search x lanes capacity a j h =
    by_effect search x (Event.Open lanes capacity) (λ (r : Result). get_or r.after.book j 0 ≡ 0) a
    (let g : j < length (replicate {A = ℕ} capacity 0) = omega (arith, length-replicate {A = ℕ} capacity 0) in
    get_or-append (replicate capacity 0) (drop capacity x.book) 0 j g ∙ get_or-replicate capacity j 0 0 h)

pub open_keeps : (search : Search) (x : State) (lanes capacity : ℕ) → Accepts search x (Event.Open lanes capacity)
    → (j : ℕ) → get_or (left_by search x (Event.Open lanes capacity)).book (capacity + j) 0 ≡ get_or x.book (capacity + j) 0
open_keeps search x lanes capacity a j =
    by_effect search x (Event.Open lanes capacity) (λ (r : Result). get_or r.after.book (capacity + j) 0 ≡ get_or x.book (capacity + j) 0) a
    (rw (length-replicate {A = ℕ} capacity 0) at (get_or-append-add (replicate capacity 0) (drop capacity x.book) j 0) ∙ get_or-drop capacity x.book j 0)

-- a flag that is dropped reads 0
pub set_down : (f : List ℕ) (i : ℕ) → get_or (set f i 0) i 0 ≡ 0
set_down [] i = refl
set_down (b ∷ bs) zero = refl
set_down (b ∷ bs) (suc i) = set_down bs i

-- a test that not all pass has an element that fails it
all_fails : {A : Type 0} (p : A → Bool) (l : List A) (d : A) → all_pass p l ≡ false → (j : ℕ) × (p (get_or l j d) ≡ false)
all_fails p [] d e = clash e
all_fails p (y ∷ ys) d e =
    by_test (p y) (λ t. let r = all_fails p ys d (rw t at e) in (suc r.0, r.1)) (λ f. (0, f))

-- ---- 02: waits only where another flag is up: its own is not read
pub waits_beside : (search : Search) (x : State) (i purpose : ℕ) → (step_by search x (given (Event.Want i purpose))).answer ≡ Answer.Waits
    → (j : ℕ) × (j ≢ i) × (get_or x.line.flag j 0 ≢ 0)
waits_beside search x i purpose e =
    by_effect search x (Event.Want i purpose) (λ (r : Result). r.answer ≡ Answer.Waits → (j : ℕ) × (j ≢ i) × (get_or x.line.flag j 0 ≢ 0)) (ap (λ (a : Answer). (said_by a).accepted) e)
    (λ q. by_test (others_down x.line i)
    (λ t. let w = rw t at q in let z : ◌≡◌ {A = ℕ} 0 1 = cc in absurd (omega arith))
    (λ f. let r = all_fails (eqb 0) (set x.line.flag i 0) 0 f in
    let up = eqb-false 0 (get_or (set x.line.flag i 0) r.0 0) r.1 in
    let n : r.0 ≢ i = λ z. up (sym (ap (λ (j : ℕ). get_or (set x.line.flag i 0) j 0) z ∙ set_down x.line.flag i)) in
    (r.0, n, λ z. up (sym (get_or-set_other x.line.flag i r.0 0 0 n ∙ z)))))
    e

-- and it holds only where every other flag is 0
pub holds_alone : (search : Search) (x : State) (i purpose : ℕ) (v : Place) → (step_by search x (given (Event.Want i purpose))).answer ≡ Answer.Holds v
    → (j : ℕ) → j ≢ i → get_or x.line.flag j 0 ≡ 0
holds_alone search x i purpose v e j n =
    by_effect search x (Event.Want i purpose) (λ (r : Result). r.answer ≡ Answer.Holds v → get_or x.line.flag j 0 ≡ 0) (ap (λ (a : Answer). (said_by a).accepted) e)
    (λ q. by_test (others_down x.line i)
    (λ t. sym (get_or-set_other x.line.flag i j 0 0 n) ∙ sym (eqb-true 0 (get_or (set x.line.flag i 0) j 0) (all_get_d (eqb 0) (set x.line.flag i 0) j 0 t refl)))
    (λ f. let w = rw f at q in let z : ◌≡◌ {A = ℕ} 0 1 = cc in absurd (omega arith)))
    e

-- ---- 04 and 09: releases
-- an accepted take answers the holder's value and the call's count; the search is made with its own flag down
pub take_region : (search : Search) (x : State) (i c : ℕ) → Accepts search x (Event.Take i c)
    → (step_by search x (given (Event.Take i c))).answer
    ≡ Answer.Region (place_in (phase_at x.line i)) c (search x.line.lanes (set x.line.flag i 0) i)
take_region search x i c a = ap (λ (r : Result). r.answer) (takes_effect search x (Event.Take i c) a)

pub free_wakes : (search : Search) (x : State) (i : ℕ) → Accepts search x (Event.Free i)
    → (step_by search x (given (Event.Free i))).answer ≡ Answer.Freed (search x.line.lanes (set x.line.flag i 0) i)
free_wakes search x i a = ap (λ (r : Result). r.answer) (takes_effect search x (Event.Free i) a)

-- a lane alone wakes none
none_raised : (f : List ℕ) (i c : ℕ) → all_pass (eqb 0) f ≡ true → first_raised f i c ≡ None
unfolding first_raised
none_raised f i zero h = refl
none_raised f i (suc c) h =
    let z : 0 ≡ get_or f i 0 = eqb-true 0 (get_or f i 0) (all_get_d (eqb 0) f i 0 h refl) in
    rw (← z) (none_raised f (i + 1) c h)

none_next : (lanes : ℕ) (f : List ℕ) (i : ℕ) → all_pass (eqb 0) f ≡ true → next_lane lanes f i ≡ None
unfolding next_lane
none_next lanes f i h = rw (none_raised f (i + 1) (lanes - (i + 1)) h, none_raised f 0 lanes h)

pub take_alone : (x : State) (i c : ℕ) → others_down x.line i ≡ true → Accepts next_lane x (Event.Take i c)
    → (step_by next_lane x (given (Event.Take i c))).answer ≡ Answer.Region (place_in (phase_at x.line i)) c None
take_alone x i c h a =
    take_region next_lane x i c a ∙ ap (λ (w : Option ℕ). Answer.Region (place_in (phase_at x.line i)) c w) (none_next x.line.lanes (set x.line.flag i 0) i h)

pub free_alone : (x : State) (i : ℕ) → others_down x.line i ≡ true → Accepts next_lane x (Event.Free i)
    → (step_by next_lane x (given (Event.Free i))).answer ≡ Answer.Freed None
free_alone x i h a = free_wakes next_lane x i a ∙ ap Answer.Freed (none_next x.line.lanes (set x.line.flag i 0) i h)

-- the releaser's flag is down afterwards
wake_flags : (l : Line) (w : Option ℕ) → (wake l w).flag ≡ l.flag
wake_flags l (Some w) = refl
wake_flags l None = refl

released_down : (search : Search) (l : Line) (i : ℕ) (y : Phase) (k : Place) → get_or (released search (lowered l i y k) i).flag i 0 ≡ 0
released_down search l i y k =
    ap (λ (f : List ℕ). get_or f i 0) (wake_flags (lowered l i y k) (next_of search (lowered l i y k) i)) ∙ set_down l.flag i

pub take_lowers : (search : Search) (x : State) (i c : ℕ) → Accepts search x (Event.Take i c) → get_or (left_by search x (Event.Take i c)).line.flag i 0 ≡ 0
take_lowers search x i c a =
    by_effect search x (Event.Take i c) (λ (r : Result). get_or r.after.line.flag i 0 ≡ 0) a (released_down search x.line i _ _)

pub free_lowers : (search : Search) (x : State) (i : ℕ) → Accepts search x (Event.Free i) → get_or (left_by search x (Event.Free i)).line.flag i 0 ≡ 0
free_lowers search x i a =
    by_effect search x (Event.Free i) (λ (r : Result). get_or r.after.line.flag i 0 ≡ 0) a (released_down search x.line i Phase.Idle x.line.pointer)

-- the wake carries the pointer as the release leaves it
carries : (search : Search) (l : Line) (i w : ℕ) (y : Phase) (k : Place) (p : Purpose) → w ≢ i → w < length l.lane → phase_at l w ≡ Phase.Waiting p
    → search l.lanes (set l.flag i 0) i ≡ Some w → phase_at (released search (lowered l i y k) i) w ≡ Phase.Woken p k
carries search l i w y k p n h e q =
    let between = other_phase l i w y n ∙ e in
    let g : w < length (placed l i y) = rw (length-set l.lane i (lane y)) h in
    rw (q, between) (ap (λ (a : Lane). a.phase) (get_or-set_same (placed l i y) w (lane (Phase.Woken p k)) idle_lane g))

module _ (search : Search) (x : State) (i w : ℕ) (p q : Purpose) (v : Place) (h : w < length x.line.lane) (waits : phase_at x.line w ≡ Phase.Waiting p) where
  others : phase_at x.line i ≡ Phase.Holding q v → w ≢ i
  others holds z = let e : Phase.Waiting p ≡ Phase.Holding q v = sym waits ∙ ap (phase_at x.line) z ∙ holds in
      let o : ◌≡◌ {A = ℕ} 0 1 = cc in omega arith

  pub take_carries : (c : ℕ) → phase_at x.line i ≡ Phase.Holding q v → (step_by search x (given (Event.Take i c))).answer ≡ Answer.Region v c (Some w)
      → phase_at (left_by search x (Event.Take i c)).line w ≡ Phase.Woken p (place (v.0 + c))
  take_carries c holds e =
      let a : Accepts search x (Event.Take i c) = ap (λ (b : Answer). (said_by b).accepted) e in
      let r = sym (take_region search x i c a) ∙ e in
      let s : search x.line.lanes (set x.line.flag i 0) i ≡ Some w = cc in
      by_effect search x (Event.Take i c) (λ (r : Result). phase_at r.after.line w ≡ Phase.Woken p (place (v.0 + c))) a
      (rw holds (carries search x.line i w (busy_for q c v) (place (v.0 + c)) p (others holds) h waits s))

  pub free_carries : phase_at x.line i ≡ Phase.Holding q v → (step_by search x (given (Event.Free i))).answer ≡ Answer.Freed (Some w)
      → phase_at (left_by search x (Event.Free i)).line w ≡ Phase.Woken p x.line.pointer
  free_carries holds e =
      let a : Accepts search x (Event.Free i) = ap (λ (b : Answer). (said_by b).accepted) e in
      let r = sym (free_wakes search x i a) ∙ e in
      let s : search x.line.lanes (set x.line.flag i 0) i ≡ Some w = cc in
      by_effect search x (Event.Free i) (λ (r : Result). phase_at r.after.line w ≡ Phase.Woken p x.line.pointer) a
      (carries search x.line i w Phase.Idle x.line.pointer p (others holds) h waits s)

-- ---- 06 and 08: a read uses one record up, whether it finds one or none; a look uses nothing
module _ (search : Search) (x : State) (i : ℕ) (k : Place) (h : i < length x.line.lane) (a : Accepts search x (Event.Read i)) where
  uses_one : (n : ℕ) → phase_at x.line i ≡ Phase.BusyReading n k → phase_at (left_by search x (Event.Read i)).line i ≡ reading (n - 1) (place (k.0 + 1))
  uses_one n e =
      by_effect search x (Event.Read i) (λ (r : Result). phase_at r.after.line i ≡ reading (n - 1) (place (k.0 + 1))) a
      (rw e (ap (λ (b : Lane). b.phase) (get_or-set_same x.line.lane i (lane (reading (n - 1) (place (k.0 + 1)))) idle_lane h)))

  pub read_uses_one : (n : ℕ) → 1 < n → phase_at x.line i ≡ Phase.BusyReading n k → phase_at (left_by search x (Event.Read i)).line i ≡ Phase.BusyReading (n - 1) (place (k.0 + 1))
  read_uses_one n m e = uses_one n e ∙ rw (ne_eqb (n - 1) 0 (λ z. omega arith))

  pub read_last_idle : phase_at x.line i ≡ Phase.BusyReading 1 k → phase_at (left_by search x (Event.Read i)).line i ≡ Phase.Idle
  read_last_idle e = uses_one 1 e

  -- and it answers none just where the record ends past the size
  pub read_none : (n : ℕ) → phase_at x.line i ≡ Phase.BusyReading n k → x.line.size < record_end x.line.view k → (step_by search x (given (Event.Read i))).answer ≡ Answer.None
  read_none n e z =
      by_effect search x (Event.Read i) (λ (r : Result). r.answer ≡ Answer.None) a
      (rw (e, lt-leb (record_end x.line.view k) x.line.size z))

  pub read_record : (n : ℕ) → phase_at x.line i ≡ Phase.BusyReading n k → record_end x.line.view k ≤ x.line.size
      → (step_by search x (given (Event.Read i))).answer ≡ Answer.Record (content_at x k)
  read_record n e z =
      by_effect search x (Event.Read i) (λ (r : Result). r.answer ≡ Answer.Record (content_at x k)) a
      (rw (e, le-leb (record_end x.line.view k) x.line.size z))

pub look_uses_nothing : (search : Search) (x : State) (i : ℕ) (k : Place) → left_by search x (Event.Look i k) ≡ x
look_uses_nothing search x i k = go (decided search x (given (Event.Look i k)))
  where
    go : {r : Result} → Decided search x (given (Event.Look i k)) r → r.after ≡ x
    go (refused n w) = refl
    go (accepted f) = refl

-- ---- 0A: lane r starts at the pointer plus the counts of the lanes below r
started_at_lem : (k : ℕ) (ls : List Lane) (r : ℕ) → (get_or (started k ls) r idle_lane).phase ≡ started_at (k + gathered_total (take r ls)) (get_or ls r idle_lane).phase
unfolding started
started_at_lem k [] r = refl
started_at_lem k (l ∷ ls) zero = rw (add-zero k)
started_at_lem k (l ∷ ls) (suc r) =
    let z : k + count_in l.phase + gathered_total (take r ls) ≡ k + (count_in l.phase + gathered_total (take r ls)) = omega arith in
    rw (← z) (started_at_lem (k + count_in l.phase) ls r)

pub record Starts (x : State) (ls : List Lane) (r : Result) : Type 0 where
  pub answers : r.answer ≡ Answer.Ordered x.line.pointer (gathered_total ls)
  pub lanes : (j : ℕ) → phase_at r.after.line j ≡ started_at (x.line.pointer.0 + gathered_total (take j ls)) (get_or ls j idle_lane).phase
  pub pointer : r.after.line.pointer ≡ place (x.line.pointer.0 + gathered_total ls)

pub ordered_starts : (search : Search) (x : State) (i c : ℕ) → Accepts search x (Event.Enter i c) → all_entered x.line (entered x.line i c) ≡ true
    → Starts x (entered x.line i c) (step_by search x (given (Event.Enter i c)))
ordered_starts search x i c a all_in =
    by_effect search x (Event.Enter i c) (λ (r : Result). Starts x (entered x.line i c) r) a
    (rw all_in (record { answers = refl; lanes = λ j. started_at_lem x.line.pointer.0 (entered x.line i c) j; pointer = refl }))

-- ---- the order of refusals
module _ (search : Search) (x : State) (i : ℕ) (S : sound x.line (length x.book) ≡ true) (inside : i < x.line.lanes) where
  -- the first three tests are passed
  reaches : (r : Result) → at_lane_lem x i r ≡ r
  reaches r = rw (S, ne_eqb x.line.lanes 0 (λ z. omega arith), lt-leb x.line.lanes i inside)

  -- 9 comes before 12 and 13
  pub want_9 : (purpose : ℕ) → 2 < purpose → step_by search x (given (Event.Want i purpose)) ≡ refuse 9 x
  want_9 purpose h = want_chain search x i purpose ∙ reaches _ ∙ rw (lt-ltb 2 purpose h)

  -- 12 comes before 13, for the gathered lane too
  pub want_12 : (purpose : ℕ) → purpose ≤ 2 → some_pass (on is_gathered) x.line.lane ≡ true → step_by search x (given (Event.Want i purpose)) ≡ refuse 12 x
  want_12 purpose h g = want_chain search x i purpose ∙ reaches _ ∙ rw (le-ltb 2 purpose h, g)

  -- 14 is for a waiting lane, 13 for the others that have no wake
  pub receive_14 : (p : Purpose) → phase_at x.line i ≡ Phase.Waiting p → step_by search x (given (Event.Receive i)) ≡ refuse 14 x
  receive_14 p e = receive_chain search x i ∙ reaches _ ∙ rw e

  pub receive_13 : is_woken (phase_at x.line i) ≡ false → is_waiting (phase_at x.line i) ≡ false → step_by search x (given (Event.Receive i)) ≡ refuse 13 x
  receive_13 e f = receive_chain search x i ∙ reaches _ ∙ rw (e, f)

  -- and 14 is for 03 alone: a take by a waiting lane is 13
  pub take_13 : (c : ℕ) (p : Purpose) → phase_at x.line i ≡ Phase.Waiting p → step_by search x (given (Event.Take i c)) ≡ refuse 13 x
  take_13 c p e = take_chain search x i c ∙ reaches _ ∙ rw e

-- 8 comes before 9
pub want_8 : (search : Search) (x : State) (i purpose : ℕ) → sound x.line (length x.book) ≡ true → 0 < x.line.lanes → x.line.lanes ≤ i
    → step_by search x (given (Event.Want i purpose)) ≡ refuse 8 x
want_8 search x i purpose S some past = want_chain search x i purpose ∙ rw (S, ne_eqb x.line.lanes 0 (λ z. omega arith), le-leb x.line.lanes i past)

-- ---- 0C: a negative offset takes its records off the pointer, and is refused below 0
module _ (search : Search) (x : State) (n : ℕ) (S : sound x.line (length x.book) ≡ true) (some : 0 < x.line.lanes) (idle : all_pass (on is_idle) x.line.lane ≡ true) where
  pub seeks : (r : Result) → when_open_lem x (cond false (refuse 9 x) (cond (not (all_pass (on is_idle) x.line.lane)) (refuse 11 x) r)) ≡ r
  seeks r = rw (S, ne_eqb x.line.lanes 0 (λ z. omega arith), idle)

  pub seek_back : n < x.line.pointer.0 → x.line.pointer.0 ≤ most_pointer
      → step_by search x (given (Event.Seek 1 (negsuc n)))
      ≡ leaves (Answer.Seek (place (x.line.pointer.0 - suc n))) (with_pointer x.line (place (x.line.pointer.0 - suc n))) x.book
  seek_back h m =
      seek_chain search x 1 (negsuc n) ∙ seeks _
      ∙ rw (le-ltb x.line.pointer.0 (suc n) h, le-ltb most_pointer (x.line.pointer.0 - suc n) (omega arith))

  pub seek_below : x.line.pointer.0 ≤ n → step_by search x (given (Event.Seek 1 (negsuc n))) ≡ refuse 15 x
  seek_below h = seek_chain search x 1 (negsuc n) ∙ seeks _ ∙ rw (lt-ltb x.line.pointer.0 (suc n) (omega arith))
