-- What an accepted step is, case by case, with its tests as facts. Later proofs have a clause for each case.
use mathlib.Core.List.{List}
use Prim.Native.Nat.{ℕ, ◌+◌, ◌≤◌, ◌<◌}
use mathlib.Core.Path.{◌≡◌, refl, sym, ap, ◌∙◌, subst}
use mathlib.Core.Bool.{Bool, true, false, not, ◌&&◌, ◌||◌}
use lib.ListN.{length}
use lib.IntN.{ℤ, pos, negsuc}
use lib.Dec.{leb, ltb}
use borrow.Author.Tests.{eqb-true, leb-false, leb-true, ltb-false, not-false, not-true}
use Rattle.lists.specs.Lists.{all_pass, some_pass}
use Rattle.lists.proofs.Tests.{and_left, and_right, clash, not_zero}
use Rattle.view.specs.View.{fits, view_ok}
use Rattle.view.specs.declared.Place.{Place}
use Rattle.line.specs.declared.Purpose.{Purpose}
use Rattle.line.specs.declared.Phase.{Phase}
use Rattle.limits.specs.Limits.{least_capacity, most_capacity, most_lanes, most_pointer}
use Rattle.line.specs.Line.{holds_shared, holds_whole, is_gathered, is_holding, is_idle, is_idle_or_gathered, is_shared_read, is_shared_write, is_whole_book, left_in, on, phase_at, place_in, purpose_in}
use Rattle.line.specs.Sound.{gathered_total}
use Rattle.line.proofs.Phases.{holding_is, idle_is, reading_is, woken_is, writing_is}
use Rattle.view.specs.declared.Block.{Block}
use Rattle.event.specs.Event.{Call, cut_short, given}
use Rattle.event.specs.declared.Event.{Event}
use Rattle.steps.specs.State.{Result, State}
use Rattle.steps.specs.Effects.{Search, effect, entered, enter_step, free_step, look_step, open_step, purpose_of, put_step, read_step, receive_step, seek_step, seek_target, take_step, view_of, view_step, want_step, write_step}
use Rattle.steps.proofs.Chains.{blocks_of_numbers}
use Rattle.steps.specs.Refusals.{view_in, allows, is_outside, no_wake_yet, phase_of}
use Rattle.steps.specs.Step.{refuse, step_by}
use Rattle.steps.proofs.CheckingOrder.{Decided, NotApplies, accepted, decided, refused}

-- the step of call c from x; `search` finds the lane that a release wakes
pub data Steps (search : Search) (x : State) : Call → Result → Type 0 where
  refuses : {c : Call} (n : ℕ) → Steps search x c (refuse n x)
  opens : (lanes capacity : ℕ) → x.line.lanes ≡ 0 → 1 ≤ lanes → lanes ≤ most_lanes → least_capacity ≤ capacity → capacity ≤ most_capacity → capacity ≤ length x.book
      → Steps search x (given (Event.Open lanes capacity)) (open_step x lanes capacity)
  wants : (i purpose : ℕ) → i < x.line.lanes → phase_at x.line i ≡ Phase.Idle → some_pass (on is_gathered) x.line.lane ≡ false → purpose ≤ 2
      → Steps search x (given (Event.Want i purpose)) (want_step x i (purpose_of purpose))
  receives : (i : ℕ) (p : Purpose) (v : Place) → i < x.line.lanes → phase_at x.line i ≡ Phase.Woken p v
      → Steps search x (given (Event.Receive i)) (receive_step x i (Phase.Woken p v))
  take_writes : (i c : ℕ) (v : Place) → i < x.line.lanes → phase_at x.line i ≡ Phase.Holding Purpose.SharedWrite v
      → fits x.line.view x.line.capacity v c ≡ true
      → Steps search x (given (Event.Take i c)) (take_step search x i c (Phase.Holding Purpose.SharedWrite v))
  take_reads : (i c : ℕ) (v : Place) → i < x.line.lanes → phase_at x.line i ≡ Phase.Holding Purpose.SharedRead v → v.0 + c ≤ most_pointer
      → Steps search x (given (Event.Take i c)) (take_step search x i c (Phase.Holding Purpose.SharedRead v))
  writes : (i content n : ℕ) (k : Place) → i < x.line.lanes → phase_at x.line i ≡ Phase.BusyWriting n k
      → Steps search x (given (Event.Write i content)) (write_step x i content (Phase.BusyWriting n k))
  reads : (i n : ℕ) (k : Place) → i < x.line.lanes → phase_at x.line i ≡ Phase.BusyReading n k
      → Steps search x (given (Event.Read i)) (read_step x i (Phase.BusyReading n k))
  puts : (i : ℕ) (k : Place) (content : ℕ) (v : Place) → i < x.line.lanes → phase_at x.line i ≡ Phase.Holding Purpose.WholeBook v
      → fits x.line.view x.line.capacity k 1 ≡ true → Steps search x (given (Event.Put i k content)) (put_step x k content)
  looks : (i : ℕ) (k v : Place) → i < x.line.lanes → phase_at x.line i ≡ Phase.Holding Purpose.WholeBook v
      → Steps search x (given (Event.Look i k)) (look_step x k)
  frees : (i : ℕ) (v : Place) → i < x.line.lanes → phase_at x.line i ≡ Phase.Holding Purpose.WholeBook v
      → Steps search x (given (Event.Free i)) (free_step search x i)
  enters : (i c : ℕ) → i < x.line.lanes → phase_at x.line i ≡ Phase.Idle → all_pass (on is_idle_or_gathered) x.line.lane ≡ true
      → fits x.line.view x.line.capacity x.line.pointer (gathered_total (entered x.line i c)) ≡ true
      → Steps search x (given (Event.Enter i c)) (enter_step x i c)
  views : (displacement extent used : ℕ) (blocks : List Block) → 0 < x.line.lanes
      → view_ok x.line.capacity (view_of displacement extent used blocks) ≡ true → all_pass (on is_idle) x.line.lane ≡ true
      → Steps search x (given (Event.View displacement extent used blocks)) (view_step x (view_of displacement extent used blocks))
  seeks : (whence : ℕ) (offset : ℤ) (n : ℕ) → 0 < x.line.lanes → seek_target x.line whence offset ≡ pos n → n ≤ most_pointer → all_pass (on is_idle) x.line.lane ≡ true
      → Steps search x (given (Event.Seek whence offset)) (seek_step x (pos n))

-- ---- from tests that fail to facts
-- a holder of a shared purpose holds it for writing or for reading
module _ (search : Search) (x : State) (i c : ℕ) (inside : i < x.line.lanes) where
  take_case : (p : Purpose) (v : Place) → phase_at x.line i ≡ Phase.Holding p v → is_whole_book p ≡ false
      → is_shared_read p && ltb most_pointer (v.0 + c) ≡ false → is_shared_write p && not (fits x.line.view x.line.capacity v c) ≡ false
      → Steps search x (given (Event.Take i c)) (take_step search x i c (Phase.Holding p v))
  take_case Purpose.SharedWrite v e w r f = take_writes i c v inside e (not-false _ f)
  take_case Purpose.SharedRead v e w r f = take_reads i c v inside e (ltb-false most_pointer (v.0 + c) r)
  take_case Purpose.WholeBook v e w r f = clash w

pub holding_shared : (y : Phase) → holds_shared y ≡ true → (is_holding y ≡ true) × (is_whole_book (purpose_in y) ≡ false)
holding_shared y h =
    (and_left (is_holding y) (not (is_whole_book (purpose_in y))) h, not-true (is_whole_book (purpose_in y)) (and_right (is_holding y) (not (is_whole_book (purpose_in y))) h))

whole_is : (p : Purpose) → is_whole_book p ≡ true → p ≡ Purpose.WholeBook
whole_is Purpose.SharedWrite e = clash (sym e)
whole_is Purpose.SharedRead e = clash (sym e)
whole_is Purpose.WholeBook e = refl

pub holding_whole : (y : Phase) → holds_whole y ≡ true → y ≡ Phase.Holding Purpose.WholeBook (place_in y)
holding_whole y h =
    holding_is y (and_left (is_holding y) (is_whole_book (purpose_in y)) h)
    ∙ ap (λ (p : Purpose). Phase.Holding p (place_in y)) (whole_is (purpose_in y) (and_right (is_holding y) (is_whole_book (purpose_in y)) h))

-- a seek's target that is not outside
inside_is : (z : ℤ) → is_outside z ≡ false → (n : ℕ) × (z ≡ pos n) × (n ≤ most_pointer)
inside_is (pos n) e = (n, refl, ltb-false most_pointer n e)
inside_is (negsuc n) e = clash e

or_first : (a : Bool) → a || false ≡ false → a ≡ false
or_first true e = e
or_first false e = refl

or_not : (a : Bool) → not a || false ≡ false → a ≡ true
or_not true e = refl
or_not false e = clash e

-- the phase allows the call where neither 13 nor 14 applies
allowed : (a w : Bool) → not a && not w ≡ false → w ≡ false → a ≡ true
allowed true w e z = refl
allowed false w e z = clash (rw z at e)

module _ (search : Search) (x : State) where
  allow : (e : Event) → ((k : ℕ) → NotApplies x (given e) k) → allows e (phase_of x e) ≡ true
  allow e f = allowed (allows e (phase_of x e)) (no_wake_yet.applies x (given e)) (f 13) (f 14)

  -- none of the reasons applies to the event
  accepted_case : (e : Event) → ((k : ℕ) → NotApplies x (given e) k) → Steps search x (given e) (effect search x e)
  accepted_case (Event.Open lanes capacity) f =
      let a = not-false _ (f 6) in
      let b = not-false _ (f 7) in
      let c = and_left (leb least_capacity capacity && leb capacity most_capacity) (leb capacity (length x.book)) b in
      opens lanes capacity (eqb-true x.line.lanes 0 (not-false _ (f 5)))
      (leb-true 1 lanes (and_left (leb 1 lanes) (leb lanes most_lanes) a)) (leb-true lanes most_lanes (and_right (leb 1 lanes) (leb lanes most_lanes) a))
      (leb-true least_capacity capacity (and_left (leb least_capacity capacity) (leb capacity most_capacity) c)) (leb-true capacity most_capacity (and_right (leb least_capacity capacity) (leb capacity most_capacity) c))
      (leb-true capacity (length x.book) (and_right (leb least_capacity capacity && leb capacity most_capacity) (leb capacity (length x.book)) b))
  accepted_case (Event.Want i purpose) f = wants i purpose (leb-false x.line.lanes i (f 8)) (idle_is (phase_at x.line i) (allow (Event.Want i purpose) f)) (f 12) (ltb-false 2 purpose (or_first (ltb 2 purpose) (f 9)))
  accepted_case (Event.Receive i) f =
      let e = woken_is (phase_at x.line i) (allow (Event.Receive i) f) in
      subst (λ (y : Phase). Steps search x (given (Event.Receive i)) (receive_step x i y)) (sym e)
      (receives i (purpose_in (phase_at x.line i)) (place_in (phase_at x.line i)) (leb-false x.line.lanes i (f 8)) e)
  accepted_case (Event.Take i c) f =
      let y = phase_at x.line i in
      let h = holding_shared y (allow (Event.Take i c) f) in
      let e = holding_is y h.0 in
      subst (λ (z : Phase). Steps search x (given (Event.Take i c)) (take_step search x i c z)) (sym e)
      (take_case search x i c (leb-false x.line.lanes i (f 8)) (purpose_in y) (place_in y) e h.1 (f 15) (f 16))
  accepted_case (Event.Write i content) f =
      let e = writing_is (phase_at x.line i) (allow (Event.Write i content) f) in
      subst (λ (y : Phase). Steps search x (given (Event.Write i content)) (write_step x i content y)) (sym e)
      (writes i content (left_in (phase_at x.line i)) (place_in (phase_at x.line i)) (leb-false x.line.lanes i (f 8)) e)
  accepted_case (Event.Read i) f =
      let e = reading_is (phase_at x.line i) (allow (Event.Read i) f) in
      subst (λ (y : Phase). Steps search x (given (Event.Read i)) (read_step x i y)) (sym e)
      (reads i (left_in (phase_at x.line i)) (place_in (phase_at x.line i)) (leb-false x.line.lanes i (f 8)) e)
  accepted_case (Event.Put i k content) f =
      puts i k content (place_in (phase_at x.line i)) (leb-false x.line.lanes i (f 8)) (holding_whole _ (allow (Event.Put i k content) f)) (not-false _ (f 16))
  accepted_case (Event.Look i k) f =
      looks i k (place_in (phase_at x.line i)) (leb-false x.line.lanes i (f 8)) (holding_whole _ (allow (Event.Look i k) f))
  accepted_case (Event.Free i) f =
      frees i (place_in (phase_at x.line i)) (leb-false x.line.lanes i (f 8)) (holding_whole _ (allow (Event.Free i) f))
  accepted_case (Event.Enter i c) f =
      enters i c (leb-false x.line.lanes i (f 8)) (idle_is _ (allow (Event.Enter i c) f)) (not-false _ (f 11)) (not-false _ (f 16))
  accepted_case (Event.View displacement extent used blocks) f =
      let ok = not-false (view_ok x.line.capacity (view_in (Event.View displacement extent used blocks))) (f 10) in
      views displacement extent used blocks (not_zero x.line.lanes (f 4)) (rw (blocks_of_numbers blocks) at ok) (or_not (all_pass (on is_idle) x.line.lane) (f 11))
  accepted_case (Event.Seek whence offset) f =
      let r = inside_is (seek_target x.line whence offset) (f 15) in
      subst (λ (z : ℤ). Steps search x (given (Event.Seek whence offset)) (seek_step x z)) (sym r.1)
      (seeks whence offset r.0 (not_zero x.line.lanes (f 4)) r.1 r.2 (or_not (all_pass (on is_idle) x.line.lane) (f 11)))
  accepted_case Event.Unlisted f = clash (f 2)

  pub steps : (c : Call) → Steps search x c (step_by search x c)
  steps c = go c (decided search x c)
    where
      go : (c : Call) {r : Result} → Decided search x c r → Steps search x c r
      go c (refused n w) = refuses n
      go (given e) (accepted f) = accepted_case e f
      go cut_short (accepted f) = clash (f 3)
