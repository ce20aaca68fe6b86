-- A line with more idle entries answers every call the same, kind by kind, and is then again one with more idle entries.
use Rattle.std.specs.Prelude.{Option, Some, None}
use Prim.Native.Nat.{ℕ, zero, suc, ◌+◌, ◌-◌, ◌≤◌, ◌<◌}
use mathlib.Core.Path.{◌≡◌, refl, sym, ap, ◌∙◌, subst}
use mathlib.Core.Bool.{Bool, true, false, cond, not, ◌&&◌}
use mathlib.Core.List.{List, [], ◌∷◌, ◌++◌, append-nil}
use native.Mathlib.Omega.{arith}
use lib.ListN.{length, replicate, set, length-set}
use lib.Seq.{set-append_left}
use lib.Dec.{eqb, leb, ltb}
use borrow.Author.Tests.{leb-false, leb-true, not-false}
use Rattle.lists.proofs.Tests.{and_right}
use Rattle.lists.specs.Lists.{all_pass, some_pass}
use Rattle.limits.specs.Limits.{least_capacity, most_capacity, most_lanes, most_pointer}
use Rattle.view.specs.View.{fits, place, position_of, view_ok}
use Rattle.view.specs.declared.Place.{Place}
use Rattle.line.specs.declared.Lane.{Lane}
use Rattle.line.specs.declared.Line.{Line}
use Rattle.line.specs.declared.Phase.{Phase}
use Rattle.line.specs.declared.Purpose.{Purpose}
use Rattle.line.specs.Line.{count_in, holds_shared, holds_whole, idle_lane, is_gathered, is_idle, is_idle_or_gathered, is_reading, is_shared_read, is_shared_write, is_waiting, is_woken, is_writing, lane, on, phase_at, place_in, purpose_in}
use Rattle.line.specs.Sound.{gathered_total, sound}
use Rattle.waitlist.specs.NextLane.{first_raised, next_lane}
use Rattle.waitlist.proofs.Laws.{next_below}
use Rattle.event.specs.Event.{Call, cut_short, given}
use Rattle.event.specs.declared.Event.{Event}
use Rattle.steps.specs.State.{Result, State, leaves, with_lanes, with_phase}
use Rattle.steps.specs.Effects.{all_entered, book_with, busy_for, entered, enter_step, free_step, grown, look_step, lowered, next_of, one_less, open_step, ordered, others_down, place_at, purpose_of, put_step, raised_as, read_step, receive_step, record_at, released, seek_base, seek_step, seek_target, started, take_step, view_of, view_step, wake, want_step, woken, write_step}
use Rattle.steps.specs.Refusals.{is_outside}
use Rattle.steps.specs.Step.{call_event, refuse, step}
use Rattle.steps.specs.declared.Answer.{Answer}
use Rattle.steps.proofs.Ordered.{started_length}
use Rattle.steps.proofs.Chains.{at_lane_lem, cut_chain, enter_chain, free_chain, look_chain, open_chain, put_chain, read_chain, receive_chain, seek_chain, take_chain, unlisted_chain, view_chain, want_chain, when_open_lem, when_sound_lem, write_chain}
use Rattle.idle_entries.specs.Widened.{EntriesDoNotShow, HasEntries, SameStep, widened}
use Rattle.lists.proofs.Tails.{all_tail, count_tail, get_d_tail, some_tail, sum_tail}
use Rattle.idle_entries.proofs.SoundLine.{phase_same, sound_same}

-- ---- the search
first_same : (more : ℕ) (f : List ℕ) (i count : ℕ) → first_raised (f ++ replicate more 0) i count ≡ first_raised f i count
unfolding first_raised
first_same more f i zero = refl
first_same more f i (suc count) = rw (get_d_tail 0 more f i, first_same more f (i + 1) count)

next_same : (more n : ℕ) (f : List ℕ) (i : ℕ) → next_lane n (f ++ replicate more 0) i ≡ next_lane n f i
unfolding next_lane
next_same more n f i = rw (first_same more f (i + 1) (n - (i + 1)), first_same more f 0 n)

-- ---- lines with one part changed
module _ (more : ℕ) (l : Line) (E : HasEntries l) (i : ℕ) (inside : i < l.lanes) where
  entry : i < length l.lane
  entry = omega (arith, E.enough)

  flagged : i < length l.flag
  flagged = omega (arith, E.enough, E.flags)

  phase_set : (p : Phase) → with_phase (widened more l) i p ≡ widened more (with_phase l i p)
  phase_set p = rw (set-append_left l.lane (replicate more idle_lane) i (lane p) entry)

  raised_set : (p : Phase) → raised_as (widened more l) i p ≡ widened more (raised_as l i p)
  raised_set p = rw (set-append_left l.lane (replicate more idle_lane) i (lane p) entry, set-append_left l.flag (replicate more 0) i 1 flagged)

  lowered_set : (p : Phase) (v : Place) → lowered (widened more l) i p v ≡ widened more (lowered l i p v)
  lowered_set p v = rw (set-append_left l.lane (replicate more idle_lane) i (lane p) entry, set-append_left l.flag (replicate more 0) i 0 flagged)

  others_same : others_down (widened more l) i ≡ others_down l i
  others_same = rw (set-append_left l.flag (replicate more 0) i 0 flagged) (all_tail 0 more (eqb 0) refl (set l.flag i 0))

  entered_set : (c : ℕ) → entered (widened more l) i c ≡ entered l i c ++ replicate more idle_lane
  entered_set c = set-append_left l.lane (replicate more idle_lane) i (lane (Phase.Gathered c)) entry

-- entries after stores
kept : (l k : Line) → HasEntries l → k.lanes ≡ l.lanes → length k.lane ≡ length l.lane → length k.flag ≡ length l.flag → HasEntries k
kept l k E n a b = record { enough = omega (arith, n, a, E.enough); flags = omega (arith, a, b, E.flags) }

-- a release wakes the same lane
released_same : (more : ℕ) (l : Line) → HasEntries l → (i : ℕ) → released next_lane (widened more l) i ≡ widened more (released next_lane l i)
released_same more l E i = rw (next_same more l.lanes l.flag i) (go (next_of next_lane l i) refl)
  where
    go : (w : Option ℕ) → next_of next_lane l i ≡ w → wake (widened more l) w ≡ widened more (wake l w)
    go None e = refl
    go (Some w) e = rw (phase_same more l w) (phase_set more l E w (next_below l.lanes l.flag i w e) (woken l.pointer (phase_at l w)))

released_kept : (l : Line) → HasEntries l → (i : ℕ) → HasEntries (released next_lane l i)
released_kept l E i = go (next_of next_lane l i)
  where
    go : (w : Option ℕ) → HasEntries (wake l w)
    go None = E
    go (Some w) = kept l (wake l (Some w)) E refl (length-set l.lane w (lane (woken l.pointer (phase_at l w)))) refl

-- an ordered call starts the same lanes
started_same : (more k : ℕ) (ls : List Lane) → started k (ls ++ replicate more idle_lane) ≡ started k ls ++ replicate more idle_lane
unfolding started
started_same more k [] = idle more k
  where
    idle : (n k : ℕ) → started k (replicate n idle_lane) ≡ replicate n idle_lane
    idle zero k = refl
    idle (suc n) k = ap (λ (ls : List Lane). idle_lane ∷ ls) (idle n (k + 0))
started_same more k (a ∷ ls) = rw (started_same more (k + count_in a.phase) ls)

seek_same : (more : ℕ) (l : Line) (whence : ℕ) → seek_base (widened more l) whence ≡ seek_base l whence
seek_same more l zero = refl
seek_same more l (suc zero) = refl
seek_same more l (suc (suc k)) = refl

-- ---- the calls, kind by kind
-- a chain of tests, each with the number that it refuses with; what is past them all
abbrev through : List (ℕ × Bool) → State → Result → Result
through [] x r = r
through (t ∷ ts) x r = cond t.1 (refuse t.0 x) (through ts x r)

module _ (more : ℕ) (x : State) (E : HasEntries x.line) where
  abbrev wide : State
  wide = record { line = widened more x.line; book = x.book }

  gives : (a : Answer) (k l : Line) (book : List ℕ) → k ≡ widened more l → HasEntries l → SameStep (leaves a k book) (leaves a l book)
  gives a k l book e F = record { answer = refl; after = record { more = more; line = e; book = refl; entries = F } }

  refuses : (n : ℕ) → SameStep (refuse n wide) (refuse n x)
  refuses n = gives (Answer.Refused n) wide.line x.line x.book refl E

  -- a choice by a test that comes out the same
  choose : (b : Bool) (s s' r r' : Result) → (b ≡ true → SameStep s r) → (b ≡ false → SameStep s' r') → SameStep (cond b s s') (cond b r r')
  choose true s s' r r' f g = f refl
  choose false s s' r r' f g = g refl

  past_tests : (ts : List (ℕ × Bool)) (s r : Result) → SameStep s r → SameStep (through ts wide s) (through ts x r)
  past_tests [] s r f = f
  past_tests (t ∷ ts) s r f =
      choose t.1 (refuse t.0 wide) (through ts wide s) (refuse t.0 x) (through ts x r) (λ e. refuses t.0) (λ e. past_tests ts s r f)

  -- a test whose two values are equal
  test_same : (n : ℕ) (a b : Bool) (s r : Result) → a ≡ b → SameStep s r → SameStep (cond a (refuse n wide) s) (cond b (refuse n x) r)
  test_same n a b s r e f =
      subst (λ (t : Bool). SameStep (cond t (refuse n wide) s) (cond b (refuse n x) r)) (sym e) (past_tests ((n, b) ∷ []) s r f)

  soundly : (s r : Result) → SameStep s r → SameStep (when_sound_lem wide s) (when_sound_lem x r)
  soundly s r f = rw (sound_same more x.line E (length x.book)) (past_tests ((1, not (sound x.line (length x.book))) ∷ []) s r f)

  openly : (ts : List (ℕ × Bool)) (s r : Result) → SameStep s r → SameStep (when_open_lem wide (through ts wide s)) (when_open_lem x (through ts x r))
  openly ts s r f =
      soundly (cond (eqb x.line.lanes 0) (refuse 4 wide) (through ts wide s)) (cond (eqb x.line.lanes 0) (refuse 4 x) (through ts x r))
      (past_tests ((4, eqb x.line.lanes 0) ∷ ts) s r f)

  at_lane : (i : ℕ) (ts : List (ℕ × Bool)) (s r : Result) → (i < x.line.lanes → SameStep s r) → SameStep (at_lane_lem wide i (through ts wide s)) (at_lane_lem x i (through ts x r))
  at_lane i ts s r f =
      let b = leb x.line.lanes i in
      openly [] (cond b (refuse 8 wide) (through ts wide s)) (cond b (refuse 8 x) (through ts x r))
      (choose b (refuse 8 wide) (through ts wide s) (refuse 8 x) (through ts x r) (λ e. refuses 8) (λ e. past_tests ts s r (f (leb-false x.line.lanes i e))))

  -- lane i gets another phase
  with_phase_lem : (a : Answer) (i : ℕ) → i < x.line.lanes → (p : Phase) (book : List ℕ)
      → SameStep (leaves a (with_phase wide.line i p) book) (leaves a (with_phase x.line i p) book)
  with_phase_lem a i h p book =
      gives a (with_phase wide.line i p) (with_phase x.line i p) book (phase_set more x.line E i h p)
      (kept x.line (with_phase x.line i p) E refl (length-set x.line.lane i (lane p)) refl)

  raises : (a : Answer) (i : ℕ) → i < x.line.lanes → (p : Phase) → SameStep (leaves a (raised_as wide.line i p) x.book) (leaves a (raised_as x.line i p) x.book)
  raises a i h p =
      gives a (raised_as wide.line i p) (raised_as x.line i p) x.book (raised_set more x.line E i h p)
      (kept x.line (raised_as x.line i p) E refl (length-set x.line.lane i (lane p)) (length-set x.line.flag i 1))

  wants : (i : ℕ) → i < x.line.lanes → (p : Purpose) → SameStep (want_step wide i p) (want_step x i p)
  wants i h p =
      let v = x.line.pointer in
      let holds = Phase.Holding p v in
      let waits = Phase.Waiting p in
      rw (others_same more x.line E i h)
      (choose (others_down x.line i) (leaves (Answer.Holds v) (raised_as wide.line i holds) x.book) (leaves Answer.Waits (raised_as wide.line i waits) x.book)
      (leaves (Answer.Holds v) (raised_as x.line i holds) x.book) (leaves Answer.Waits (raised_as x.line i waits) x.book)
      (λ e. raises (Answer.Holds v) i h holds) (λ e. raises Answer.Waits i h waits))

  -- a release, with its answer by the lane that it wakes
  releases : (says : Option ℕ → Answer) (i : ℕ) → i < x.line.lanes → (p : Phase) (v : Place)
      → SameStep (leaves (says (next_of next_lane (lowered wide.line i p v) i)) (released next_lane (lowered wide.line i p v) i) x.book)
      (leaves (says (next_of next_lane (lowered x.line i p v) i)) (released next_lane (lowered x.line i p v) i) x.book)
  releases says i h p v =
      let l = lowered x.line i p v in
      let F = kept x.line l E refl (length-set x.line.lane i (lane p)) (length-set x.line.flag i 0) in
      let e = lowered_set more x.line E i h p v in
      record {
        answer = ap (λ (k : Line). says (next_of next_lane k i)) e ∙ ap says (next_same more x.line.lanes l.flag i);
        after =
            record {
              more = more;
              line = ap (λ (k : Line). released next_lane k i) e ∙ released_same more l F i;
              book = refl;
              entries = released_kept l F i;
            };
      }

  orders : (ls : List Lane) → length ls ≡ length x.line.lane → SameStep (ordered wide (ls ++ replicate more idle_lane)) (ordered x ls)
  orders ls n =
      let k = x.line.pointer.0 in
      let l = (ordered x ls).after.line in
      let F : HasEntries l = kept x.line l E refl (started_length k ls ∙ n) refl in
      record {
        answer = ap (Answer.Ordered x.line.pointer) (sum_tail idle_lane more (on count_in) refl ls);
        after =
            record {
              more = more;
              line = rw (sum_tail idle_lane more (on count_in) refl ls, started_same more k ls);
              book = refl;
              entries = F;
            };
      }

  enters : (i c : ℕ) → i < x.line.lanes → SameStep (enter_step wide i c) (enter_step x i c)
  enters i c h =
      let ls = entered x.line i c in
      let n : length ls ≡ length x.line.lane = length-set x.line.lane i (lane (Phase.Gathered c)) in
      let gathers : State → List Lane → Result = λ y ms. leaves Answer.Gathered (with_lanes y.line ms) y.book in
      rw (entered_set more x.line E i h c, count_tail idle_lane more (on is_gathered) refl ls)
      (choose (all_entered x.line ls) (ordered wide (ls ++ replicate more idle_lane)) (gathers wide (ls ++ replicate more idle_lane)) (ordered x ls) (gathers x ls)
      (λ e. orders ls n) (λ e. gives Answer.Gathered (with_lanes wide.line (ls ++ replicate more idle_lane)) (with_lanes x.line ls) x.book refl (kept x.line (with_lanes x.line ls) E refl n refl)))

  total_same : (i c : ℕ) → i < x.line.lanes
      → not (fits x.line.view x.line.capacity x.line.pointer (gathered_total (entered wide.line i c)))
      ≡ not (fits x.line.view x.line.capacity x.line.pointer (gathered_total (entered x.line i c)))
  total_same i c h =
      ap (λ (t : ℕ). not (fits x.line.view x.line.capacity x.line.pointer t))
      (ap gathered_total (entered_set more x.line E i h c) ∙ sum_tail idle_lane more (on count_in) refl (entered x.line i c))

  writes : (i content : ℕ) → i < x.line.lanes → (p : Phase) → SameStep (write_step wide i content p) (write_step x i content p)
  writes i content h p =
      let l = with_phase (grown x.line (place_in p)) i (one_less p) in
      gives (Answer.Wrote (position_of x.line.view (place_in p))) (with_phase (grown wide.line (place_in p)) i (one_less p)) l (book_with x (place_in p) content)
      (phase_set more (grown x.line (place_in p)) (kept x.line (grown x.line (place_in p)) E refl refl refl) i h (one_less p))
      (kept x.line l E refl (length-set x.line.lane i (lane (one_less p))) refl)

  -- an opening makes the entries anew: there are none more
  opens : (lanes capacity : ℕ) → lanes ≤ most_lanes → SameStep (open_step wide lanes capacity) (open_step x lanes capacity)
  opens lanes capacity h =
      record {
        answer = refl;
        after =
            record {
              more = 0;
              line = rw (append-nil (replicate most_lanes idle_lane), append-nil {A = ℕ} (replicate most_lanes 0));
              book = refl;
              entries = record { enough = h; flags = refl };
            };
      }

  same_cut : SameStep (step wide cut_short) (step x cut_short)
  same_cut = rw (cut_chain next_lane wide, cut_chain next_lane x) (soundly (refuse 3 wide) (refuse 3 x) (refuses 3))

  same_event : (e : Event) → SameStep (call_event wide e) (call_event x e)
  same_event (Event.Open lanes capacity) =
      let fewer = leb 1 lanes && leb lanes most_lanes in
      let small = not (leb least_capacity capacity && leb capacity most_capacity && leb capacity (length x.book)) in
      let rest : State → Result = λ y. cond small (refuse 7 y) (open_step y lanes capacity) in
      let from6 : State → Result = λ y. cond (not fewer) (refuse 6 y) (rest y) in
      let b5 = not (eqb x.line.lanes 0) in
      rw (open_chain next_lane wide lanes capacity, open_chain next_lane x lanes capacity)
      (soundly (cond b5 (refuse 5 wide) (from6 wide)) (cond b5 (refuse 5 x) (from6 x))
      (past_tests ((5, b5) ∷ []) (from6 wide) (from6 x)
      (choose (not fewer) (refuse 6 wide) (rest wide) (refuse 6 x) (rest x) (λ e. refuses 6)
      (λ e. past_tests ((7, small) ∷ []) (open_step wide lanes capacity) (open_step x lanes capacity)
      (opens lanes capacity (leb-true lanes most_lanes (and_right (leb 1 lanes) (leb lanes most_lanes) (not-false _ e))))))))
  same_event (Event.Want i purpose) =
      rw (want_chain next_lane wide i purpose, want_chain next_lane x i purpose, phase_same more x.line i, some_tail idle_lane more (on is_gathered) refl x.line.lane)
      (at_lane i ((9, ltb 2 purpose) ∷ (12, some_pass (on is_gathered) x.line.lane) ∷ (13, not (is_idle (phase_at x.line i))) ∷ []) (want_step wide i (purpose_of purpose))
      (want_step x i (purpose_of purpose)) (λ h. wants i h (purpose_of purpose)))
  same_event (Event.Receive i) =
      let p = phase_at x.line i in
      rw (receive_chain next_lane wide i, receive_chain next_lane x i, phase_same more x.line i)
      (at_lane i ((13, not (is_woken p) && not (is_waiting p)) ∷ (14, is_waiting p) ∷ []) (receive_step wide i p) (receive_step x i p)
      (λ h. with_phase_lem (Answer.Holds (place_in p)) i h (Phase.Holding (purpose_in p) (place_in p)) x.book))
  same_event (Event.Take i c) =
      let p = phase_at x.line i in
      rw (take_chain next_lane wide i c, take_chain next_lane x i c, phase_same more x.line i)
      (at_lane i
      ((13, not (holds_shared p))
      ∷ (15, is_shared_read (purpose_in p) && ltb most_pointer ((place_in p).0 + c))
      ∷ (16, is_shared_write (purpose_in p) && not (fits x.line.view x.line.capacity (place_in p) c))
      ∷ [])
      (take_step next_lane wide i c p) (take_step next_lane x i c p)
      (λ h. releases (Answer.Region (place_in p) c) i h (busy_for (purpose_in p) c (place_in p)) (place ((place_in p).0 + c))))
  same_event (Event.Write i content) =
      let p = phase_at x.line i in
      rw (write_chain next_lane wide i content, write_chain next_lane x i content, phase_same more x.line i)
      (at_lane i ((13, not (is_writing p)) ∷ []) (write_step wide i content p) (write_step x i content p)
      (λ h. writes i content h p))
  same_event (Event.Read i) =
      let p = phase_at x.line i in
      rw (read_chain next_lane wide i, read_chain next_lane x i, phase_same more x.line i)
      (at_lane i ((13, not (is_reading p)) ∷ []) (read_step wide i p) (read_step x i p) (λ h. with_phase_lem (record_at x (place_in p)) i h (one_less p) x.book))
  same_event (Event.Put i k content) =
      let p = phase_at x.line i in
      rw (put_chain next_lane wide i k content, put_chain next_lane x i k content, phase_same more x.line i)
      (at_lane i ((13, not (holds_whole p)) ∷ (16, not (fits x.line.view x.line.capacity k 1)) ∷ []) (put_step wide k content) (put_step x k content)
      (λ h. gives (Answer.Wrote (position_of x.line.view k)) (grown wide.line k) (grown x.line k) (book_with x k content) refl (kept x.line (grown x.line k) E refl refl refl)))
  same_event (Event.Look i k) =
      let p = phase_at x.line i in
      rw (look_chain next_lane wide i k, look_chain next_lane x i k, phase_same more x.line i)
      (at_lane i ((13, not (holds_whole p)) ∷ []) (look_step wide k) (look_step x k) (λ h. gives (record_at x k) wide.line x.line x.book refl E))
  same_event (Event.Free i) =
      let p = phase_at x.line i in
      rw (free_chain next_lane wide i, free_chain next_lane x i, phase_same more x.line i)
      (at_lane i ((13, not (holds_whole p)) ∷ []) (free_step next_lane wide i) (free_step next_lane x i) (λ h. releases Answer.Freed i h Phase.Idle x.line.pointer))
  same_event (Event.Enter i c) =
      let p = phase_at x.line i in
      let f16 : State → Bool = λ y. not (fits x.line.view x.line.capacity x.line.pointer (gathered_total (entered y.line i c))) in
      let from16 : State → Result = λ y. cond (f16 y) (refuse 16 y) (enter_step y i c) in
      let ts : List (ℕ × Bool) = (11, not (all_pass (on is_idle_or_gathered) x.line.lane)) ∷ (13, not (is_idle p)) ∷ [] in
      rw (enter_chain next_lane wide i c, enter_chain next_lane x i c, phase_same more x.line i, all_tail idle_lane more (on is_idle_or_gathered) refl x.line.lane)
      (at_lane i ts (from16 wide) (from16 x)
      (λ h. test_same 16 (f16 wide) (f16 x) (enter_step wide i c) (enter_step x i c) (total_same i c h) (enters i c h)))
  same_event (Event.View displacement extent used blocks) =
      let v = view_of displacement extent used blocks in
      rw (view_chain next_lane wide displacement extent used blocks, view_chain next_lane x displacement extent used blocks, all_tail idle_lane more (on is_idle) refl x.line.lane)
      (openly ((10, not (view_ok x.line.capacity v)) ∷ (11, not (all_pass (on is_idle) x.line.lane)) ∷ []) (view_step wide v) (view_step x v)
      (gives Answer.View (view_step wide v).after.line (view_step x v).after.line x.book refl (kept x.line (view_step x v).after.line E refl refl refl)))
  same_event (Event.Seek whence offset) =
      let z = seek_target x.line whence offset in
      rw (seek_chain next_lane wide whence offset, seek_chain next_lane x whence offset, seek_same more x.line whence, all_tail idle_lane more (on is_idle) refl x.line.lane)
      (openly ((9, ltb 2 whence) ∷ (11, not (all_pass (on is_idle) x.line.lane)) ∷ (15, is_outside z) ∷ []) (seek_step wide z) (seek_step x z)
      (gives (Answer.Seek (place_at z)) (seek_step wide z).after.line (seek_step x z).after.line x.book refl (kept x.line (seek_step x z).after.line E refl refl refl)))
  same_event Event.Unlisted = rw (unlisted_chain next_lane wide, unlisted_chain next_lane x) (soundly (refuse 2 wide) (refuse 2 x) (refuses 2))

-- ---- the law
state_of : (a b : Line) (c d : List ℕ) → a ≡ b → c ≡ d → ◌≡◌ {A = State} (record { line = a; book = c }) (record { line = b; book = d })
state_of a b c d e f = cc

pub entries_do_not_show : EntriesDoNotShow
entries_do_not_show y x W c =
    subst (λ (z : State). SameStep (step z c) (step x c)) (sym (state_of y.line (widened W.more x.line) y.book x.book W.line W.book)) (go c)
  where
    go : (c : Call) → SameStep (step (wide W.more x W.entries) c) (step x c)
    go (given e) = same_event W.more x W.entries e
    go cut_short = same_cut W.more x W.entries
