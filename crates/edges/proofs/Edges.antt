-- The edges of document 01 hold: computed from the definitions, and for N = 1, 64 and 128 shown of every sound line.
use Rattle.std.specs.Prelude.{Option, Some, None}
use Prim.Native.Nat.{ℕ, zero, suc, ◌+◌, ◌≤◌, ◌<◌}
use mathlib.Core.Path.{◌≡◌, refl, sym, ap, ◌∙◌}
use mathlib.Core.Logic.{◌≢◌}
use mathlib.Core.List.{List, [], ◌∷◌, map}
use mathlib.Core.Bool.{true, false, not, and-true, ◌&&◌}
use native.Mathlib.Omega.{arith}
use native.Mathlib.Decide.{ℕ_discrete}
use lib.ListN.{length, replicate, set, get_or-map}
use lib.Seq.{get_or-set_other, get_or-set_same}
use lib.IntN.{ℤ, pos}
use lib.Dec.{eqb, leb}
use borrow.Author.Tests.{le-leb, le-ltb, leb-false, ne_eqb, not-false}
use Rattle.lists.specs.Lists.{some_pass}
use Rattle.lists.proofs.Tests.{both, by_test, clash}
use Rattle.lists.proofs.Counts.{all_from, all_set, any_count, count_one}
use Rattle.view.specs.View.{block_record, end_of_book, in_order, place, position_of, starting_below, view_ok}
use Rattle.view.specs.declared.Place.{Place}
use Rattle.limits.specs.Limits.{most_lanes}
use Rattle.line.specs.declared.Purpose.{Purpose}
use Rattle.line.specs.declared.Phase.{Phase}
use Rattle.line.specs.declared.Lane.{Lane}
use Rattle.line.specs.Line.{flag_for, has_turn, idle_lane, is_flagged, is_gathered, is_idle, is_waiting, lane, on, phase_at}
use Rattle.line.specs.Sound.{sound}
use Rattle.steps.proofs.Keeps.{GoodState, unopened_good}
use Rattle.steps.proofs.PastFirst.{after_past_1, after_past1, calls_good, calls_past_1, calls_past1, step_past_1, step_past1}
use Rattle.line.proofs.Facts.{Facts, good_of, sound_of}
use Rattle.line.proofs.Phases.{idle_is, up_kinds, waiting_up}
use Rattle.waitlist.specs.NextLane.{first_raised, next_lane, raised}
use Rattle.waitlist.proofs.Nearest.{Next, distance_round, next_found, next_none}
use Rattle.event.specs.BigEndian.{big_endian, number_of}
use Rattle.event.specs.Event.{Call, call_of, fields_in, given}
use Rattle.event.specs.declared.Event.{Event}
use Rattle.steps.specs.Answer.{said_by}
use Rattle.steps.specs.State.{Result, State, fresh}
use Rattle.steps.specs.Effects.{others_down, purpose_of, started, want_step}
use Rattle.steps.specs.Refusals.{lane_of, names_lane}
use Rattle.steps.specs.Step.{call_event, refuse, step}
use Rattle.steps.specs.declared.Answer.{Answer}
use Rattle.steps.proofs.CheckingOrder.{Decided, accepted, decided, refused, refused_first}
use Rattle.steps.proofs.Edges.{free_wakes, set_down, take_region}
use Rattle.steps.proofs.Release.{raised_up}
use Rattle.steps.proofs.Chains.{at_lane_lem, enter_chain, free_chain, look_chain, open_chain, put_chain, read_chain, receive_chain, take_chain, want_chain, write_chain}
use Rattle.printout.specs.Run.{run, run_on}
use Rattle.printout.specs.Print.{answer_lines, answer_words, decimal_in, linebook, words}
use Rattle.edges.specs.Edges.{Alone, EnteredInOrder, Holder, Lane5Releases, LastReleases, OtherEdges, Release, StarredEdges, Waits, after_events, answer_to, answers_to, enter0, enter1, enter2, is_sound, lane5_by, last_by, minus, phases_of, plain_by, pointer10, pointer10_by, pointer3_by, reached, size24_by, viewed24_by, viewed_by, writers}

-- ---- phases and answers
turn_of : (y : Phase) → is_flagged y ≡ true → is_waiting y ≡ false → has_turn y ≡ true
turn_of y u e = let k = up_kinds y in by_test (has_turn y) (λ t. t) (λ f. let z = rw (u, e, f) at k in absurd (omega arith))

taken_is : {s t : Place} {c d : ℕ} {a b : Option ℕ} → Answer.Region s c a ≡ Answer.Region t d b → b ≡ a
taken_is e = cc

freed_is : {a b : Option ℕ} → Answer.Freed a ≡ Answer.Freed b → b ≡ a
freed_is e = cc

-- ---- N = 1
module _ (x : State) (A : Alone x) where
  facts : Facts x.line
  facts = (good_of x.line (length x.book) A.shaped A.sound).facts

  -- not all of one lane are gathered
  none_gathered : some_pass (on is_gathered) x.line.lane ≡ false
  none_gathered =
      by_test (some_pass (on is_gathered) x.line.lane)
      (λ t. let h = any_count (on is_gathered) x.line.lane t in
      absurd (omega (arith, (facts.gathering h).fewer, A.one)))
      (λ f. f)

  all_idle : phase_at x.line 0 ≡ Phase.Idle → (j : ℕ) → phase_at x.line j ≡ Phase.Idle
  all_idle e zero = e
  all_idle e (suc j) = facts.base.past (suc j) (omega (arith, A.one))

  others_down_lem : phase_at x.line 0 ≡ Phase.Idle → (i : ℕ) → others_down x.line i ≡ true
  others_down_lem e i =
      all_set (eqb 0) x.line.flag i 0
      (all_from (eqb 0) x.line.flag 0
      (λ j h. rw facts.base.flags (rw (get_or-map (on flag_for) x.line.lane j idle_lane, all_idle e j))))
      refl

  never_waits : (i purpose : ℕ) → answer_to x (Event.Want i purpose) ≢ Answer.Waits
  never_waits i purpose e = go (decided next_lane x (given (Event.Want i purpose))) e
    where
      go : {r : Result} → Decided next_lane x (given (Event.Want i purpose)) r → r.answer ≡ Answer.Waits → ⊥
      go (refused n w) q = let z : ◌≡◌ {A = ℕ} 0 1 = cc in omega arith
      go (accepted f) q =
          let first : i ≡ 0 = omega (arith, leb-false x.line.lanes i (f 8), A.one) in
          let idle = idle_is (phase_at x.line i) (not-false (is_idle (phase_at x.line i)) (rw (and-true (not (is_idle (phase_at x.line i)))) at (f 13))) in
          let holds = rw (others_down_lem (rw first at idle) i) at q in
          let z : ◌≡◌ {A = ℕ} 0 1 = cc in omega arith

  want_holds : phase_at x.line 0 ≡ Phase.Idle → (purpose : ℕ) → purpose ≤ 2 → call_event x (Event.Want 0 purpose) ≡ want_step x 0 (purpose_of purpose)
  want_holds e purpose h = rw (want_chain next_lane x 0 purpose, A.sound, A.one, le-ltb 2 purpose h, none_gathered, e)

  answers_holds : phase_at x.line 0 ≡ Phase.Idle → (purpose : ℕ) → purpose ≤ 2 → answer_to x (Event.Want 0 purpose) ≡ Answer.Holds x.line.pointer
  answers_holds e purpose h = ap (λ (r : Result). r.answer) (want_holds e purpose h) ∙ rw (others_down_lem e 0)

  then_holds : phase_at x.line 0 ≡ Phase.Idle → (purpose : ℕ) → purpose ≤ 2
      → phase_at (call_event x (Event.Want 0 purpose)).after.line 0 ≡ Phase.Holding (purpose_of purpose) x.line.pointer
  then_holds e purpose h =
      rw (want_holds e purpose h, others_down_lem e 0)
      (ap (λ (a : Lane). a.phase)
      (get_or-set_same x.line.lane 0 (lane (Phase.Holding (purpose_of purpose) x.line.pointer)) idle_lane (omega (arith, A.shaped.lanes_length))))

-- ---- N = n, of every sound line: a release wakes the nearest lane that waits
module _ (x : State) (n i : ℕ) (h : i < n) (H : Holder x n i) where
  own : Facts x.line
  own = (good_of x.line (length x.book) H.shaped H.sound).facts

  -- the flags at the search
  abbrev flags : List ℕ
  flags = set x.line.flag i 0

  own_down : raised flags i ≡ false
  own_down = ap (λ (n : ℕ). eqb n 1) (set_down x.line.flag i)

  flag_of : (j : ℕ) → j ≢ i → raised flags j ≡ is_flagged (phase_at x.line j)
  flag_of j other = ap (λ (f : ℕ). eqb f 1) (get_or-set_other x.line.flag i j 0 0 other) ∙ raised_up x.line own.base j

  has_turn_lem : has_turn (phase_at x.line i) ≡ true
  has_turn_lem = rw H.holds

  waits_other : (j : ℕ) → Waits x j → j ≢ i
  waits_other j w z = both w (rw (z, H.holds))

  waits_up : (j : ℕ) → Waits x j → raised flags j ≡ true
  waits_up j w = flag_of j (waits_other j w) ∙ waiting_up (phase_at x.line j) w

  entry : (j : ℕ) → j < n → j < length x.line.lane
  entry j b = omega (arith, H.shaped.lanes_length, own.base.lanes_fit, H.lanes)

  -- one lane has the turn, so whoever else is up waits
  up_waits : (j : ℕ) → j < n → raised flags j ≡ true → Waits x j
  up_waits j b u =
      let other : j ≢ i = λ z. both u (rw z own_down) in
      by_test (is_waiting (phase_at x.line j)) (λ t. t)
      (λ f. let up = sym (flag_of j other) ∙ u in
      let turn = turn_of (phase_at x.line j) up f in
      absurd
      (other (count_one (on has_turn) x.line.lane j i idle_lane (entry j b) (entry i h) turn has_turn_lem (omega (arith, own.turn.one)))))

  search_n : next_lane x.line.lanes flags i ≡ next_lane n flags i
  search_n = ap (λ (m : ℕ). next_lane m flags i) H.lanes

  -- the lane w that waits is the next one
  module _ (w : ℕ) (b : w < n) (waits : Waits x w) (next : (a : ℕ) → Next n flags i a → a ≡ w) where
    woken : next_lane n flags i ≡ Some w
    woken = go (next_lane n flags i) refl
      where
        go : (a : Option ℕ) → next_lane n flags i ≡ a → a ≡ Some w
        go None e = both (waits_up w waits) (next_none n flags i h own_down e w b)
        go (Some a) e = ap Some (next a (next_found n flags i h own_down a e))

    release : Release x i w
    release =
        record {
          take = λ c start count a e. let r = sym (take_region next_lane x i c (ap (λ (t : Answer). (said_by t).accepted) e)) ∙ e in taken_is r ∙ search_n ∙ woken;
          free = λ a e. let r = sym (free_wakes next_lane x i (ap (λ (t : Answer). (said_by t).accepted) e)) ∙ e in freed_is r ∙ search_n ∙ woken;
        }

-- every lane that waits is farther from the last than lane 0 is
last_wakes_lane0 : (x : State) (n last : ℕ) → last + 1 ≡ n → Holder x n last → Waits x 0 → Release x last 0
last_wakes_lane0 x n last e H waits0 = release x n last (omega arith) H 0 (omega arith) waits0 next
  where
    next : (a : ℕ) → Next n (flags x n last (omega arith) H) last a → a ≡ 0
    next a q =
        elim (ℕ_discrete 0 a) [
          | yes z ↦ sym z
          | no z ↦
              let d = q.nearer 0 (omega arith) (waits_up x n last (omega arith) H 0 waits0) z in
              let some : 0 < last = omega (arith, q.inside) in
              absurd (omega (arith, q.inside, distance_round n a 0 (omega arith), distance_round n last 0 some))
        ]

lane5_wakes_lane4 : (x : State) (n : ℕ) → 5 < n → Holder x n 5 → Waits x 4 → ((j : ℕ) → Waits x j → j ≡ 4) → Release x 5 4
lane5_wakes_lane4 x n h H waits4 only = release x n 5 h H 4 (omega arith) waits4 (λ a q. only a (up_waits x n 5 h H a q.inside q.up))

-- ---- what a list of events reaches, computed without the test for 1: it never applies there, and compares each two lanes
module _ (n : ℕ) (events : List Event) where
  abbrev reached_past1 : State
  reached_past1 = after_past1 (fresh (replicate n 0)) (map given events)

  reached_good : GoodState (reached n events)
  reached_good = calls_good (map given events) (fresh (replicate n 0)) (unopened_good (replicate n 0))

  reached_past_1 : reached n events ≡ reached_past1
  reached_past_1 = after_past_1 (map given events) (fresh (replicate n 0)) (unopened_good (replicate n 0))

  reached_sound : is_sound (reached n events) ≡ true
  reached_sound = let x = reached n events in sound_of x.line (length x.book) reached_good

  call_past_1 : (c : Call) → step (reached n events) c ≡ step_past1 reached_past1 c
  call_past_1 c = step_past_1 (reached n events) reached_good c ∙ ap (λ (x : State). step_past1 x c) reached_past_1

  answer_past_1 : (c : Call) → (step (reached n events) c).answer ≡ (step_past1 reached_past1 c).answer
  answer_past_1 c = ap (λ (r : Result). r.answer) (call_past_1 c)

  answer_each : {A : Type 0} (f : A → Event) (ks : List A) → map (λ k. answer_to (reached n events) (f k)) ks ≡ map (λ k. (step_past1 reached_past1 (given (f k))).answer) ks
  answer_each f [] = refl
  answer_each f (k ∷ ks) = rw (answer_past_1 (given (f k)), answer_each f ks)

  -- more events after these
  module _ (more : List Event) where
    answers_past_1 : answers_to (reached n events) more ≡ map (λ (r : Result). r.answer) (calls_past1 reached_past1 (map given more))
    answers_past_1 =
        ap (map (λ (r : Result). r.answer)) (calls_past_1 (map given more) (reached n events) reached_good ∙ ap (λ (x : State). calls_past1 x (map given more)) reached_past_1)

    later_past_1 : after_events (reached n events) more ≡ after_past1 reached_past1 (map given more)
    later_past_1 = after_past_1 (map given more) (reached n events) reached_good ∙ ap (λ (x : State). after_past1 x (map given more)) reached_past_1

    later_sound : is_sound (after_events (reached n events) more) ≡ true
    later_sound = let x = after_events (reached n events) more in sound_of x.line (length x.book) (calls_good (map given more) (reached n events) reached_good)

-- ---- N = 64 and N = 128: by computation, and of every line
module _ (n last below : ℕ) where
  last_releases : last + 1 ≡ n
      → phases_of (reached_past1 64 (last_by n last below 0)) (0 ∷ below ∷ last ∷ [])
      ≡ Phase.Waiting Purpose.SharedWrite ∷ Phase.Waiting Purpose.WholeBook ∷ Phase.Holding Purpose.SharedWrite (place 0) ∷ []
      → (step_past1 (reached_past1 64 (last_by n last below 0)) (given (Event.Take last 1))).answer ≡ Answer.Region (place 0) 1 (Some 0)
      → (step_past1 (reached_past1 64 (last_by n last below 2)) (given (Event.Free last))).answer ≡ Answer.Freed (Some 0)
      → LastReleases n last below
  last_releases e phases taken freed =
      record {
        line = ap (λ (x : State). phases_of x (0 ∷ below ∷ last ∷ [])) (reached_past_1 64 (last_by n last below 0)) ∙ phases;
        sound = rw (reached_sound 64 (last_by n last below 0), reached_sound 64 (last_by n last below 2));
        take = answer_past_1 64 (last_by n last below 0) (given (Event.Take last 1)) ∙ taken;
        free = answer_past_1 64 (last_by n last below 2) (given (Event.Free last)) ∙ freed;
        every = λ x H waits0 waits-below. last_wakes_lane0 x n last e H waits0;
      }

last_of_64 : LastReleases 64 63 62
unfolding block_record in_order position_of view_ok first_raised next_lane started step_past1 after_past1
last_of_64 = last_releases 64 63 62 refl refl refl refl

last_of_128 : LastReleases 128 127 126
unfolding block_record in_order position_of view_ok first_raised next_lane started step_past1 after_past1
last_of_128 = last_releases 128 127 126 refl refl refl refl

lane5_releases : (n : ℕ) → 5 < n
    → phases_of (reached_past1 64 (lane5_by n 0)) (4 ∷ 5 ∷ []) ≡ Phase.Waiting Purpose.SharedRead ∷ Phase.Holding Purpose.SharedWrite (place 0) ∷ []
    → (step_past1 (reached_past1 64 (lane5_by n 0)) (given (Event.Take 5 1))).answer ≡ Answer.Region (place 0) 1 (Some 4)
    → (step_past1 (reached_past1 64 (lane5_by n 2)) (given (Event.Free 5))).answer ≡ Answer.Freed (Some 4)
    → Lane5Releases n
lane5_releases n h phases taken freed =
    record {
      line = ap (λ (x : State). phases_of x (4 ∷ 5 ∷ [])) (reached_past_1 64 (lane5_by n 0)) ∙ phases;
      sound = rw (reached_sound 64 (lane5_by n 0), reached_sound 64 (lane5_by n 2));
      take = answer_past_1 64 (lane5_by n 0) (given (Event.Take 5 1)) ∙ taken;
      free = answer_past_1 64 (lane5_by n 2) (given (Event.Free 5)) ∙ freed;
      every = λ x H waits4 only. lane5_wakes_lane4 x n h H waits4 only;
    }

lane5_of_64 : Lane5Releases 64
unfolding block_record in_order position_of view_ok first_raised next_lane started step_past1 after_past1
lane5_of_64 = lane5_releases 64 (omega arith) refl refl refl

lane5_of_128 : Lane5Releases 128
unfolding block_record in_order position_of view_ok first_raised next_lane started step_past1 after_past1
lane5_of_128 = lane5_releases 128 (omega arith) refl refl refl

-- ---- the ordered call, in each order of entry
module _ (a b c : Event) where
  abbrev in_this_order : List Event
  in_this_order = a ∷ b ∷ c ∷ []

  entered_in_order :
      map (λ (r : Result). r.answer) (calls_past1 (reached_past1 120 pointer10_by) (map given in_this_order)) ≡ Answer.Gathered ∷ Answer.Gathered ∷ Answer.Ordered (place 10) 5 ∷ []
      → phases_of (after_past1 (reached_past1 120 pointer10_by) (map given in_this_order)) (0 ∷ 1 ∷ 2 ∷ []) ≡ writers
      → (after_past1 (reached_past1 120 pointer10_by) (map given in_this_order)).line.pointer ≡ place 15
      → EnteredInOrder a b c
  entered_in_order answered phases pointer =
      record {
        answers = answers_past_1 120 pointer10_by in_this_order ∙ answered;
        lanes = ap (λ (x : State). phases_of x (0 ∷ 1 ∷ 2 ∷ [])) (later_past_1 120 pointer10_by in_this_order) ∙ phases;
        pointer = ap (λ (x : State). x.line.pointer) (later_past_1 120 pointer10_by in_this_order) ∙ pointer;
        sound = later_sound 120 pointer10_by in_this_order;
      }

order_012 : EnteredInOrder enter0 enter1 enter2
unfolding block_record in_order position_of view_ok started step_past1 calls_past1 after_past1
order_012 = entered_in_order enter0 enter1 enter2 refl refl refl

order_021 : EnteredInOrder enter0 enter2 enter1
unfolding block_record in_order position_of view_ok started step_past1 calls_past1 after_past1
order_021 = entered_in_order enter0 enter2 enter1 refl refl refl

order_102 : EnteredInOrder enter1 enter0 enter2
unfolding block_record in_order position_of view_ok started step_past1 calls_past1 after_past1
order_102 = entered_in_order enter1 enter0 enter2 refl refl refl

order_120 : EnteredInOrder enter1 enter2 enter0
unfolding block_record in_order position_of view_ok started step_past1 calls_past1 after_past1
order_120 = entered_in_order enter1 enter2 enter0 refl refl refl

order_201 : EnteredInOrder enter2 enter0 enter1
unfolding block_record in_order position_of view_ok started step_past1 calls_past1 after_past1
order_201 = entered_in_order enter2 enter0 enter1 refl refl refl

order_210 : EnteredInOrder enter2 enter1 enter0
unfolding block_record in_order position_of view_ok started step_past1 calls_past1 after_past1
order_210 = entered_in_order enter2 enter1 enter0 refl refl refl

starts_at_10 : pointer10.line.pointer.0 ≡ 10
unfolding block_record in_order view_ok step_past1 after_past1
starts_at_10 = ap (λ (x : State). x.line.pointer.0) (reached_past_1 120 pointer10_by)

-- ---- the table
pub starred_edges : StarredEdges
unfolding block_record end_of_book starting_below in_order position_of view_ok first_raised next_lane big_endian number_of fields_in started step_past1 calls_past1 after_past1
starred_edges =
    record {
      alone_never_waits = never_waits;
      alone_answers_holds = answers_holds;
      alone_then_holds = then_holds;
      last_of_64 = last_of_64;
      last_of_128 = last_of_128;
      lane5_of_64 = lane5_of_64;
      lane5_of_128 = lane5_of_128;
      view_puts = λ content. answer_each 64 (viewed_by 2) (λ (k : ℕ). Event.Put 0 (place k) content) (0 ∷ 1 ∷ 2 ∷ 3 ∷ []);
      view_writes = λ content. answers_past_1 64 (viewed_by 0) (Event.Take 0 4 ∷ replicate 4 (Event.Write 0 content));
      fit_64 = answer_past_1 64 (plain_by 64) (given (Event.Take 0 8));
      overfill_64 = answer_past_1 64 (plain_by 64) (given (Event.Take 0 9));
      fit_63 = answer_past_1 63 (plain_by 63) (given (Event.Take 0 7));
      overfill_63 = answer_past_1 63 (plain_by 63) (given (Event.Take 0 8));
      back_3 = answer_past_1 64 pointer3_by (given (Event.Seek 1 (minus 3)));
      back_4 = answer_past_1 64 pointer3_by (given (Event.Seek 1 (minus 4)));
      bytes_back_3 = answer_past_1 64 pointer3_by (call_of 0x0C (1 ∷ 0xFF ∷ 0xFF ∷ 0xFF ∷ 0xFD ∷ []));
      bytes_back_4 = answer_past_1 64 pointer3_by (call_of 0x0C (1 ∷ 0xFF ∷ 0xFF ∷ 0xFF ∷ 0xFC ∷ []));
      seek_most = answer_past_1 64 pointer3_by (given (Event.Seek 0 (pos 65536)));
      seek_past = answer_past_1 64 pointer3_by (given (Event.Seek 0 (pos 65537)));
      view_24 = ap (λ (x : State). x.line.view) (reached_past_1 64 size24_by);
      size_24 = ap (λ (x : State). x.line.size) (reached_past_1 64 size24_by);
      seek_end = answer_past_1 64 size24_by (given (Event.Seek 2 (pos 0)));
      pointer_end = ap (λ (r : Result). r.after.line.pointer) (call_past_1 64 size24_by (given (Event.Seek 2 (pos 0))));
      size_viewed = ap (λ (x : State). x.line.size) (reached_past_1 64 viewed24_by);
      seek_viewed = answer_each 64 viewed24_by (λ (offset : ℤ). Event.Seek 2 offset) (pos 0 ∷ minus 2 ∷ minus 3 ∷ pos 65534 ∷ pos 65535 ∷ []);
      counted_none = answers_past_1 64 viewed24_by (Event.Want 0 2 ∷ Event.Look 0 (place 0) ∷ Event.Look 0 (place 1) ∷ []);
      append_viewed =
          λ content. answers_past_1 64 viewed24_by
          (Event.Seek 2 (pos 0) ∷ Event.Want 0 0 ∷ Event.Take 0 1 ∷ Event.Write 0 content ∷ Event.Seek 2 (pos 0) ∷ []);
      view_10 = ap (λ (x : State). x.line.view) (reached_past_1 120 pointer10_by);
      pointer_10 = ap (λ (x : State). x.line.pointer) (reached_past_1 120 pointer10_by);
      order_012 = order_012;
      order_021 = order_021;
      order_102 = order_102;
      order_120 = order_120;
      order_201 = order_201;
      order_210 = order_210;
      starts = rw starts_at_10;
      from_starts = rw starts_at_10;
    }

-- ---- the edges that bear no star
-- a lane that is not below N, of an open sound line
module _ (x : State) (S : is_sound x ≡ true) (opened : x.line.lanes ≢ 0) where
  outside : (i : ℕ) → i ≡ x.line.lanes → (r : Result) → at_lane_lem x i r ≡ refuse 8 x
  outside i e r = let h : x.line.lanes ≤ i = omega arith in rw (S, ne_eqb x.line.lanes 0 opened, le-leb x.line.lanes i h)

  lane_N : (e : Event) → names_lane e ≡ true → lane_of e ≡ x.line.lanes → answer_to x e ≡ Answer.Refused 8
  lane_N e t i = ap (λ (r : Result). r.answer) (step_N e t i)
    where
      step_N : (e : Event) → names_lane e ≡ true → lane_of e ≡ x.line.lanes → call_event x e ≡ refuse 8 x
      step_N (Event.Open lanes capacity) t h = clash (sym t)
      step_N (Event.Want i purpose) t h = want_chain next_lane x i purpose ∙ outside i h _
      step_N (Event.Receive i) t h = receive_chain next_lane x i ∙ outside i h _
      step_N (Event.Take i c) t h = take_chain next_lane x i c ∙ outside i h _
      step_N (Event.Write i content) t h = write_chain next_lane x i content ∙ outside i h _
      step_N (Event.Read i) t h = read_chain next_lane x i ∙ outside i h _
      step_N (Event.Put i k content) t h = put_chain next_lane x i k content ∙ outside i h _
      step_N (Event.Look i k) t h = look_chain next_lane x i k ∙ outside i h _
      step_N (Event.Free i) t h = free_chain next_lane x i ∙ outside i h _
      step_N (Event.Enter i c) t h = enter_chain next_lane x i c ∙ outside i h _
      step_N (Event.View displacement extent used blocks) t h = clash (sym t)
      step_N (Event.Seek whence offset) t h = clash (sym t)
      step_N Event.Unlisted t h = clash (sym t)

lanes_129 : (x : State) → is_sound x ≡ true → x.line.lanes ≡ 0 → (capacity : ℕ) → answer_to x (Event.Open 129 capacity) ≡ Answer.Refused 6
lanes_129 x S unopened capacity = ap (λ (r : Result). r.answer) (open_chain next_lane x 129 capacity) ∙ rw (S, unopened)

-- refused with 6 only where the reason of that number applies
lanes_inside : (x : State) (lanes capacity : ℕ) → 1 ≤ lanes → lanes ≤ 128 → answer_to x (Event.Open lanes capacity) ≢ Answer.Refused 6
lanes_inside x lanes capacity low high e =
    let outside : not (leb 1 lanes && leb lanes most_lanes) ≡ true = (refused_first next_lane x (given (Event.Open lanes capacity)) 6 e).applies in
    clash (sym (rw (le-leb 1 lanes low, le-leb lanes most_lanes high) at outside))

pub other_edges : OtherEdges
unfolding sound run run_on answer_lines answer_words decimal_in linebook words
other_edges = record { lanes_129 = lanes_129; lanes_inside = lanes_inside; lane_N = lane_N; empty_sheet = refl }
