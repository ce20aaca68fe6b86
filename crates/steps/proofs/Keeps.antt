-- An accepted call leaves a sound line sound: reached from opening or not, for any length of the lent buffer.
use Rattle.std.specs.Prelude.{Option, Some, None}
use Prim.Native.Nat.{ℕ, zero, suc, ◌+◌, ◌-◌, ◌≤◌, ◌<◌, min, max}
use mathlib.Core.Path.{◌≡◌, refl, sym, ap, ◌∙◌}
use mathlib.Core.Bool.{Bool, true, false, cond, ◌&&◌, ◌||◌}
use mathlib.Core.List.{List, [], ◌∷◌, ◌++◌, map}
use native.Mathlib.Omega.{arith}
use native.Mathlib.Decide.{dec_lt}
use native.Mathlib.Nat.{add-zero}
use lib.ListN.{drop, get_or, length, length-append, length-drop, length-replicate, replicate, set, get_or-map}
use lib.Seq.{length-sets, set-get_or}
use lib.Dec.{eqb, leb}
use borrow.Author.Tests.{eq-eqb, eqb-true, le-leb, leb-true}
use Rattle.lists.specs.Lists.{all_pass, some_pass, bit, count_pass, every, implies}
use Rattle.lists.proofs.Tests.{and_both, and_left, and_right, at_test, both, every_nth, implies_from, implies_use}
use Rattle.lists.proofs.Counts.{all_count, all_get_d, all_none, all_set, any_none, bit_zero, count_pos}
use Rattle.view.specs.View.{fits, place, position_of, record_end, view_ok}
use Rattle.view.specs.declared.Place.{Place}
use Rattle.view.specs.declared.View.{View}
use Rattle.view.proofs.Laws.{fits_end, fits_low, fits_part, plain_ok}
use Rattle.line.specs.declared.Purpose.{Purpose}
use Rattle.line.specs.declared.Phase.{Phase}
use Rattle.line.specs.declared.Lane.{Lane}
use Rattle.line.specs.declared.Line.{Line}
use Rattle.limits.specs.Limits.{most_lanes, most_pointer}
use Rattle.line.specs.Line.{Shaped, flag_for, has_turn, idle_lane, is_busy, is_flagged, is_gathered, is_idle, is_writing, lane, left_in, on, phase_at, place_in, unopened}
use Rattle.line.specs.Sound.{apart, gathered_total, numbers_ok, region_end, region_ok, sound, value_ok}
use Rattle.line.proofs.Phases.{flag_down, no_overlap, no_region, no_value, one_up}
use Rattle.line.proofs.Facts.{Facts, Good, OpenNumbers, good_of, open_ok, sound_of, when_open}
use Rattle.waitlist.specs.NextLane.{next_lane}
use Rattle.event.specs.BigEndian.{big_endian}
use Rattle.event.specs.Event.{Call}
use Rattle.steps.specs.State.{Result, State, with_phase, with_pointer, with_size, with_view}
use Rattle.steps.specs.Effects.{all_entered, entered, freed, grown, next_of, one_less, opened, others_down, purpose_of, raised_as, reading, book_with, taken, view_of, wake, writing}
use Rattle.steps.specs.Step.{step}
use Rattle.steps.proofs.Cases.{Steps, enters, frees, looks, opens, puts, reads, receives, refuses, seeks, steps, take_reads, take_writes, views, wants, writes}
use Rattle.steps.proofs.Ordered.{busy_by, complete_facts, enter_facts}
use Rattle.steps.proofs.Release.{Leaving, none_gathered, release_facts}
use Rattle.steps.proofs.Stored.{flags_same, flags_set, kinds_count, placed, ready_length, recount, region_at, short, store_base}

abbrev pub GoodState : State → Type 0
GoodState x = Good x.line (length x.book)

-- ---- a fresh line
repeated : (n j : ℕ) (a : Lane) → get_or (replicate n a) j a ≡ a
repeated zero j a = refl
repeated (suc n) zero a = refl
repeated (suc n) (suc j) a = repeated n j a

pub fresh_idle : (lanes capacity j : ℕ) → phase_at (opened lanes capacity) j ≡ Phase.Idle
fresh_idle lanes capacity j = ap (λ (x : Lane). x.phase) (repeated most_lanes j idle_lane)

pub fresh_facts : (lanes capacity : ℕ) → lanes ≤ most_lanes → Facts (opened lanes capacity)
fresh_facts lanes capacity h =
    record {
      base = record { long = refl; blocks = refl; lanes_fit = h; flags = refl; regions = refl; disjoint = λ i j n. rw (fresh_idle lanes capacity i) refl; past = λ j p. fresh_idle lanes capacity j };
      turn = record { one = refl; values = refl };
      gathering = λ g. absurd (omega arith);
    }

-- ---- a lane that wants
-- all flags are 0 exactly where no lane is up
zeros_none : (ls : List Lane) → all_pass (eqb 0) (map (on flag_for) ls) ≡ true → count_pass (on is_flagged) ls ≡ 0
zeros_none [] e = refl
zeros_none (x ∷ xs) e =
    let z = eqb-true 0 (flag_for x.phase) (and_left _ (all_pass (eqb 0) (map (on flag_for) xs)) e) in
    let d : is_flagged x.phase ≡ false = sym (one_up x.phase) ∙ ap (λ (n : ℕ). eqb n 1) (sym z) in
    rw (d, zeros_none xs (and_right (eqb 0 (flag_for x.phase)) _ e))

none_zeros : (ls : List Lane) → count_pass (on is_flagged) ls ≡ 0 → all_pass (eqb 0) (map (on flag_for) ls) ≡ true
none_zeros [] z = refl
none_zeros (x ∷ xs) z = and_both _ _ (down_zero x.phase (bit_zero (is_flagged x.phase) (omega arith))) (none_zeros xs (omega arith))
  where
    down_zero : (y : Phase) → is_flagged y ≡ false → eqb 0 (flag_for y) ≡ true
    down_zero y e = rw (flag_down y e)

module _ (l : Line) (F : Facts l) (i : ℕ) (h : i < l.lanes) (e : phase_at l i ≡ Phase.Idle) where
  own_flag : set l.flag i 0 ≡ l.flag
  own_flag =
      let z : get_or l.flag i 0 ≡ 0 = rw F.base.flags (get_or-map (on flag_for) l.lane i idle_lane ∙ rw e) in
      ap (λ (n : ℕ). set l.flag i n) (sym z) ∙ set-get_or l.flag i 0

  pub others_none : others_down l i ≡ true → count_pass (on is_flagged) l.lane ≡ 0
  others_none t = zeros_none l.lane (rw (own_flag, F.base.flags) at t)

  pub others_some : others_down l i ≡ false → 0 < count_pass (on is_flagged) l.lane
  others_some t =
      elim (dec_lt 0 (count_pass (on is_flagged) l.lane)) [
        | yes u ↦ u
        | no u ↦ let z : others_down l i ≡ true = rw (own_flag, F.base.flags) (none_zeros l.lane (omega arith)) in both z t
      ]

  module _ (g : some_pass (on is_gathered) l.lane ≡ false) where
    -- the lane raises its flag in a phase that is up
    raise_facts : (y : Phase) → is_busy y ≡ false → is_gathered y ≡ false → flag_for y ≡ 1 → value_ok l.pointer y ≡ true
        → count_pass (on has_turn) (placed l i y) ≡ min 1 (count_pass (on is_flagged) (placed l i y)) → Facts (raised_as l i y)
    raise_facts y not-busy not_gathered up value one =
        record {
          base = store_base l F.base i y l.pointer (set l.flag i 1) h (omega arith) (flags_set l F.base i y 1 (sym up)) (no_region l y not-busy) (λ j n. no_overlap y (phase_at l j) not-busy);
          turn = record { one = one; values = all_set (on (value_ok l.pointer)) l.lane i (lane y) F.turn.values value };
          gathering = λ p. absurd (omega (arith, none p));
        }
      where
        none : 0 < count_pass (on is_gathered) (placed l i y) → count_pass (on is_gathered) (placed l i y) ≡ 0
        none p =
            let r : count_pass (on is_gathered) (placed l i y) + bit false ≡ count_pass (on is_gathered) l.lane + bit false = rw not_gathered at (recount l F.base is_gathered i Phase.Idle y h e) in
            omega (arith, any_none (on is_gathered) l.lane g)

    pub holds_facts : (p : Purpose) → others_down l i ≡ true → Facts (raised_as l i (Phase.Holding p l.pointer))
    holds_facts p t =
        raise_facts (Phase.Holding p l.pointer) refl refl refl (eq-eqb l.pointer.0 l.pointer.0 refl)
        (omega (arith, recount l F.base has_turn i Phase.Idle (Phase.Holding p l.pointer) h e, recount l F.base is_flagged i Phase.Idle (Phase.Holding p l.pointer) h e, others_none t, F.turn.one))

    pub waits_facts : (p : Purpose) → others_down l i ≡ false → Facts (raised_as l i (Phase.Waiting p))
    waits_facts p t =
        raise_facts (Phase.Waiting p) refl refl refl refl
        (omega (arith, recount l F.base has_turn i Phase.Idle (Phase.Waiting p) h e, recount l F.base is_flagged i Phase.Idle (Phase.Waiting p) h e, others_some t, F.turn.one))

-- ---- a lane that receives its wake
pub receive_facts : (l : Line) → Facts l → (i : ℕ) (p : Purpose) (v : Place) → i < l.lanes → phase_at l i ≡ Phase.Woken p v → Facts (with_phase l i (Phase.Holding p v))
receive_facts l F i p v h e =
    record {
      base = store_base l F.base i (Phase.Holding p v) l.pointer l.flag h (omega arith) (flags_same l F.base i (Phase.Holding p v) (rw e)) refl (λ j n. refl);
      turn =
          record {
            one = omega (arith, counted has_turn, counted is_flagged, F.turn.one);
            values = all_set (on (value_ok l.pointer)) l.lane i (lane (Phase.Holding p v)) F.turn.values (rw e at (all_get_d (on (value_ok l.pointer)) l.lane i idle_lane F.turn.values refl));
          };
      gathering = λ g. absurd (omega (arith, counted is_gathered, none_gathered l F (count_pos (on is_flagged) l.lane i idle_lane (short l F.base i h) (rw e))));
    }
  where
    counted : (q : Phase → Bool) → count_pass (on q) (placed l i (Phase.Holding p v)) + bit (q (Phase.Woken p v)) ≡ count_pass (on q) l.lane + bit (q (Phase.Holding p v))
    counted q = recount l F.base q i (Phase.Woken p v) (Phase.Holding p v) h e

-- ---- a holder that releases
pub holding_value : (l : Line) → Facts l → (i : ℕ) (p : Purpose) (v : Place) → phase_at l i ≡ Phase.Holding p v → v.0 ≡ l.pointer.0
holding_value l F i p v e =
    let q : eqb v.0 l.pointer.0 ≡ true = rw e at (all_get_d (on (value_ok l.pointer)) l.lane i idle_lane F.turn.values refl) in
    eqb-true v.0 l.pointer.0 q

or_right : (a b : Bool) → b ≡ true → a || b ≡ true
or_right true b q = refl
or_right false b q = q

or_either : {X : Type 0} (a b : Bool) → a || b ≡ true → (a ≡ true → X) → (b ≡ true → X) → X
or_either true b e f g = f refl
or_either false b e f g = g e

-- a new region from the pointer on shares nothing with the regions there
new_apart : (l : Line) (y : Phase) → (place_in y).0 ≡ l.pointer.0 → (z : Phase) → region_ok l z ≡ true → apart y z ≡ true
new_apart l y e z r =
    implies_from (is_busy y && is_busy z) _
    (λ t. let bs = leb 1 (left_in z) ∷ leb (region_end z) l.pointer.0 ∷ implies (is_writing z) (fits l.view l.capacity (place_in z) (left_in z)) ∷ [] in
    let q = implies_use (is_busy z) (every bs) r (and_right (is_busy y) (is_busy z) t) in
    let low = leb-true (region_end z) l.pointer.0 (every_nth bs 1 q) in
    or_right (leb (region_end y) (place_in z).0) _ (le-leb (region_end z) (place_in y).0 (omega arith)))

-- the phase after a take: a region of c records, or idle where c is 0
record Region (l : Line) (c : ℕ) (y : Phase) : Type 0 where
  from : (place_in y).0 ≡ l.pointer.0
  left : left_in y ≡ c
  turn : has_turn y ≡ false
  down : flag_for y ≡ 0
  not_gathered : is_gathered y ≡ false
  room : implies (is_writing y) (fits l.view l.capacity (place_in y) (left_in y)) ≡ true

take_leaving : (l : Line) → Facts l → (i c : ℕ) (p : Purpose) (v : Place) (y : Phase) → i < l.lanes → phase_at l i ≡ Phase.Holding p v → Region l c y
    → Leaving l i (Phase.Holding p v) (cond (eqb c 0) Phase.Idle y) (place (v.0 + c))
take_leaving l F i c p v y h e R =
    let value = holding_value l F i p v e in
    record {
      inside = h;
      was = e;
      turn = refl;
      up = refl;
      no_turn = busy_by (λ (z : Phase). has_turn z ≡ false) c y (λ n. refl) (λ n. R.turn);
      down = busy_by (λ (z : Phase). flag_for z ≡ 0) c y (λ n. refl) (λ n. R.down);
      not_gathered = busy_by (λ (z : Phase). is_gathered z ≡ false) c y (λ n. refl) (λ n. R.not_gathered);
      rise = omega arith;
      ok = busy_by (λ (z : Phase). region_ok (with_pointer l (place (v.0 + c))) z ≡ true) c y (λ n. refl)
          (λ n. implies_from (is_busy y) _ (λ t. rw (le-leb 1 (left_in y) (omega (arith, R.left)), le-leb (region_end y) (v.0 + c) (omega (arith, R.left, R.from)), R.room)));
      away = λ j n. busy_by (λ (z : Phase). apart z (phase_at l j) ≡ true) c y (λ m. refl) (λ m. new_apart l y R.from (phase_at l j) (region_at l F.base j));
    }

pub take_writes_leaving : (l : Line) → Facts l → (i c : ℕ) (v : Place) → i < l.lanes → phase_at l i ≡ Phase.Holding Purpose.SharedWrite v
    → fits l.view l.capacity v c ≡ true → Leaving l i (Phase.Holding Purpose.SharedWrite v) (writing c v) (place (v.0 + c))
take_writes_leaving l F i c v h e f =
    take_leaving l F i c Purpose.SharedWrite v (Phase.BusyWriting c v) h e
    (record { from = holding_value l F i Purpose.SharedWrite v e; left = refl; turn = refl; down = refl; not_gathered = refl; room = f })

pub take_reads_leaving : (l : Line) → Facts l → (i c : ℕ) (v : Place) → i < l.lanes → phase_at l i ≡ Phase.Holding Purpose.SharedRead v
    → Leaving l i (Phase.Holding Purpose.SharedRead v) (reading c v) (place (v.0 + c))
take_reads_leaving l F i c v h e =
    take_leaving l F i c Purpose.SharedRead v (Phase.BusyReading c v) h e
    (record { from = holding_value l F i Purpose.SharedRead v e; left = refl; turn = refl; down = refl; not_gathered = refl; room = refl })

pub free_leaving : (l : Line) → Facts l → (i : ℕ) (v : Place) → i < l.lanes → phase_at l i ≡ Phase.Holding Purpose.WholeBook v
    → Leaving l i (Phase.Holding Purpose.WholeBook v) Phase.Idle l.pointer
free_leaving l F i v h e =
    record { inside = h; was = e; turn = refl; up = refl; no_turn = refl; down = refl; not_gathered = refl; rise = omega arith; ok = refl; away = λ j n. refl }

-- ---- a busy lane with one record less
-- y is what is left of the region o, of which one record is used up and one more is left
pub record Rest (o y : Phase) : Type 0 where
  pub busy : is_busy o ≡ true
  pub next : (place_in y).0 ≡ (place_in o).0 + 1
  pub left : left_in o ≡ left_in y + 1
  pub same : is_writing y ≡ is_writing o
  pub turn : has_turn y ≡ false
  pub down : flag_for y ≡ 0
  pub not_gathered : is_gathered y ≡ false

abbrev region_tests : Line → Phase → List Bool
region_tests l y = leb 1 (left_in y) ∷ leb (region_end y) l.pointer.0 ∷ implies (is_writing y) (fits l.view l.capacity (place_in y) (left_in y)) ∷ []

module _ (l : Line) (ok : view_ok l.capacity l.view ≡ true) (blocks : length l.view.block ≡ 8) where
  rest_room : (o y : Phase) → Rest o y → implies (is_writing o) (fits l.view l.capacity (place_in o) (left_in o)) ≡ true
      → implies (is_writing y) (fits l.view l.capacity (place_in y) (left_in y)) ≡ true
  rest_room o y R e =
      implies_from (is_writing y) _
      (λ t. fits_part l.capacity l.view ok blocks (place_in o).0 (left_in o) (place_in y).0 (left_in y) (implies_use (is_writing o) _ e (sym R.same ∙ t)) (omega (arith, R.next)) (omega (arith, R.next, R.left)))

  rest_region : (o y : Phase) → Rest o y → 0 < left_in y → region_ok l o ≡ true → region_ok l y ≡ true
  rest_region o y R some r =
      let q = implies_use (is_busy o) (every (region_tests l o)) r R.busy in
      let low = leb-true (region_end o) l.pointer.0 (every_nth (region_tests l o) 1 q) in
      implies_from (is_busy y) _
      (λ t. rw (le-leb 1 (left_in y) some, le-leb (region_end y) l.pointer.0 (omega (arith, R.next, R.left)), rest_room o y R (every_nth (region_tests l o) 2 q)))

rest_apart : (o y z : Phase) → Rest o y → apart o z ≡ true → apart y z ≡ true
rest_apart o y z R e =
    implies_from (is_busy y && is_busy z) _
    (λ t. let b = and_both (is_busy o) (is_busy z) R.busy (and_right (is_busy y) (is_busy z) t) in
    or_either (leb (region_end o) (place_in z).0) (leb (region_end z) (place_in o).0) (implies_use (is_busy o && is_busy z) _ e b)
    (λ u. let v = leb-true (region_end o) (place_in z).0 u in rw (le-leb (region_end y) (place_in z).0 (omega (arith, R.next, R.left))))
    (λ u. let v = leb-true (region_end z) (place_in o).0 u in or_right (leb (region_end y) (place_in z).0) _ (le-leb (region_end z) (place_in y).0 (omega (arith, R.next)))))

-- the lane with what is left, or idle where nothing is
pub rest_facts : (l : Line) → Facts l → view_ok l.capacity l.view ≡ true → (i : ℕ) (o y : Phase) → i < l.lanes → phase_at l i ≡ o
    → has_turn o ≡ false → flag_for o ≡ 0 → Rest o y → Facts (with_phase l i (cond (eqb (left_in y) 0) Phase.Idle y))
rest_facts l F ok i o y h e still flat R =
    record {
      base =
          store_base l F.base i new l.pointer l.flag h (omega arith) (flags_same l F.base i new (new_down ∙ sym (ap flag_for e ∙ flat)))
          (busy_by (λ (z : Phase). region_ok l z ≡ true) (left_in y) y (λ n. refl) (λ n. rest_region l ok F.base.blocks o y R n (rw e at (region_at l F.base i))))
          (λ j n. busy_by (λ (z : Phase). apart z (phase_at l j) ≡ true) (left_in y) y (λ m. refl) (λ m. rest_apart o y (phase_at l j) R (rw e at (F.base.disjoint i j (λ z. n (sym z))))));
      turn =
          record {
            one = omega (arith, turns, ups, F.turn.one);
            values = all_set (on (value_ok l.pointer)) l.lane i (lane new) F.turn.values (no_value l.pointer new new_turn);
          };
      gathering = λ g. absurd (omega (arith, gathers, none_busy));
    }
  where
    new : Phase
    new = cond (eqb (left_in y) 0) Phase.Idle y

    new_turn : has_turn new ≡ false
    new_turn = busy_by (λ (z : Phase). has_turn z ≡ false) (left_in y) y (λ n. refl) (λ n. R.turn)

    new_down : flag_for new ≡ 0
    new_down = busy_by (λ (z : Phase). flag_for z ≡ 0) (left_in y) y (λ n. refl) (λ n. R.down)

    new_loose : is_gathered new ≡ false
    new_loose = busy_by (λ (z : Phase). is_gathered z ≡ false) (left_in y) y (λ n. refl) (λ n. R.not_gathered)

    flat_up : (z : Phase) → flag_for z ≡ 0 → is_flagged z ≡ false
    flat_up z q = sym (one_up z) ∙ ap (λ (n : ℕ). eqb n 1) q

    turns : count_pass (on has_turn) (placed l i new) + bit false ≡ count_pass (on has_turn) l.lane + bit false
    turns = rw (new_turn, still) at (recount l F.base has_turn i o new h e)

    ups : count_pass (on is_flagged) (placed l i new) + bit false ≡ count_pass (on is_flagged) l.lane + bit false
    ups = rw (flat_up new new_down, flat_up o flat) at (recount l F.base is_flagged i o new h e)

    gathers : count_pass (on is_gathered) (placed l i new) + bit (is_gathered o) ≡ count_pass (on is_gathered) l.lane + bit false
    gathers = rw new_loose at (recount l F.base is_gathered i o new h e)

    none_busy : count_pass (on is_gathered) l.lane ≡ 0
    none_busy =
        let b = count_pos (on is_busy) l.lane i idle_lane (short l F.base i h) (ap is_busy e ∙ R.busy) in
        elim (dec_lt 0 (count_pass (on is_gathered) l.lane)) [
          | yes g ↦ absurd (omega (arith, kinds_count l.lane, ready_length l (F.gathering g)))
          | no g ↦ omega arith
        ]

-- a busy lane has a record left
pub some_left : (l : Line) → Facts l → (i : ℕ) (o : Phase) → phase_at l i ≡ o → is_busy o ≡ true → 1 ≤ left_in o
some_left l F i o e b =
    let r : region_ok l o ≡ true = rw e at (region_at l F.base i) in
    leb-true 1 (left_in o) (every_nth (region_tests l o) 0 (implies_use (is_busy o) (every (region_tests l o)) r b))

-- ---- all lanes idle: another pointer, another view
pub idle_facts : (l : Line) → Facts l → (v : View) (k : Place) → all_pass (on is_idle) l.lane ≡ true → length v.block ≡ 8 → Facts (with_pointer (with_view l v) k)
idle_facts l F v k e blocks =
    let idle = all_count (on is_idle) l.lane e in
    let kinds = kinds_count l.lane in
    let none-turn : count_pass (on has_turn) l.lane ≡ 0 = omega (arith, F.turn.one) in
    record {
      base =
          record {
            long = F.base.long;
            blocks = blocks;
            lanes_fit = F.base.lanes_fit;
            flags = F.base.flags;
            regions = all_none (on is_busy) (on (region_ok (with_pointer (with_view l v) k))) (λ x b. no_region (with_pointer (with_view l v) k) x.phase b) l.lane (omega arith);
            disjoint = F.base.disjoint;
            past = F.base.past;
          };
      turn = record { one = F.turn.one; values = all_none (on has_turn) (on (value_ok k)) (λ x b. no_value k x.phase b) l.lane none-turn };
      gathering = λ g. absurd (omega arith);
    }

-- ---- the lanes and flags after a step
module _ (x : State) (G : GoodState x) where
  numbers : 0 < x.line.lanes → OpenNumbers x.line (length x.book)
  numbers h = when_open x.line (length x.book) h G.numbers

  -- a writer's or a reader's next record is used up
  write_rest : (i n : ℕ) (k : Place) → i < x.line.lanes → phase_at x.line i ≡ Phase.BusyWriting n k → Facts (with_phase x.line i (one_less (Phase.BusyWriting n k)))
  write_rest i n k h e =
      let m = some_left x.line G.facts i (Phase.BusyWriting n k) e refl in
      rest_facts x.line G.facts (numbers (omega arith)).view i (Phase.BusyWriting n k) (Phase.BusyWriting (n - 1) (place (k.0 + 1))) h e refl refl
      (record { busy = refl; next = refl; left = omega arith; same = refl; turn = refl; down = refl; not_gathered = refl })

  read_rest : (i n : ℕ) (k : Place) → i < x.line.lanes → phase_at x.line i ≡ Phase.BusyReading n k → Facts (with_phase x.line i (one_less (Phase.BusyReading n k)))
  read_rest i n k h e =
      let m = some_left x.line G.facts i (Phase.BusyReading n k) e refl in
      rest_facts x.line G.facts (numbers (omega arith)).view i (Phase.BusyReading n k) (Phase.BusyReading (n - 1) (place (k.0 + 1))) h e refl refl
      (record { busy = refl; next = refl; left = omega arith; same = refl; turn = refl; down = refl; not_gathered = refl })

-- the size is no part of these facts
sized_facts : (l : Line) (n : ℕ) → Facts l → Facts (with_size l n)
sized_facts l n F =
    record {
      base = record { long = F.base.long; blocks = F.base.blocks; lanes_fit = F.base.lanes_fit; flags = F.base.flags; regions = F.base.regions; disjoint = F.base.disjoint; past = F.base.past };
      turn = record { one = F.turn.one; values = F.turn.values };
      gathering = λ g. record { ready = (F.gathering g).ready; fewer = (F.gathering g).fewer; room = (F.gathering g).room };
    }

pub keeps_facts : {x : State} {c : Call} {r : Result} → GoodState x → Steps next_lane x c r → Facts r.after.line
keeps_facts G (refuses n) = G.facts
keeps_facts G (opens lanes capacity z a b d e f) = fresh_facts lanes capacity b
keeps_facts {x} G (wants i purpose h e g m) =
    at_test (λ (r : Result). Facts r.after.line) (others_down x.line i) _ _
    (λ t. holds_facts x.line G.facts i h e g (purpose_of purpose) t) (λ t. waits_facts x.line G.facts i h e g (purpose_of purpose) t)
keeps_facts {x} G (receives i p v h e) = receive_facts x.line G.facts i p v h e
keeps_facts {x} G (take_writes i c v h e f) =
    release_facts x.line G.facts i (Phase.Holding Purpose.SharedWrite v) (writing c v) (place (v.0 + c)) (take_writes_leaving x.line G.facts i c v h e f)
keeps_facts {x} G (take_reads i c v h e f) =
    release_facts x.line G.facts i (Phase.Holding Purpose.SharedRead v) (reading c v) (place (v.0 + c)) (take_reads_leaving x.line G.facts i c v h e)
keeps_facts {x} G (writes i content n k h e) =
    sized_facts (with_phase x.line i (one_less (Phase.BusyWriting n k))) (max x.line.size (record_end x.line.view k)) (write_rest x G i n k h e)
keeps_facts {x} G (reads i n k h e) = read_rest x G i n k h e
keeps_facts {x} G (puts i k content v h e f) = sized_facts x.line (max x.line.size (record_end x.line.view k)) G.facts
keeps_facts {x} G (looks i k v h e) = G.facts
keeps_facts {x} G (frees i v h e) = release_facts x.line G.facts i (Phase.Holding Purpose.WholeBook v) Phase.Idle x.line.pointer (free_leaving x.line G.facts i v h e)
keeps_facts {x} G (enters i c h e g f) =
    at_test (λ (r : Result). Facts r.after.line) (all_entered x.line (entered x.line i c)) _ _
    (λ t. complete_facts x.line G.facts i c h e g f (numbers x G (omega arith)).view) (λ t. enter_facts x.line G.facts i c h e g f t)
keeps_facts {x} G (views displacement extent used blocks z o g) = idle_facts x.line G.facts _ (place 0) g refl
keeps_facts {x} G (seeks whence offset n z t m g) = idle_facts x.line G.facts x.line.view (place n) g G.facts.base.blocks

-- ---- the numbers after a step: the lanes' phases and the flags are no part of them
-- a wake changes none of the numbers
wake_numbers : (t : Line) (w : Option ℕ) (b : ℕ) → numbers_ok t b ≡ true → numbers_ok (wake t w) b ≡ true
wake_numbers t (Some i) b e = e
wake_numbers t None b e = e

-- a record that fits ends within the capacity
pub record_ends : (v : View) (capacity : ℕ) (k : Place) → fits v capacity k 1 ≡ true → record_end v k ≤ capacity
record_ends v capacity k f = let r = fits_end v capacity k.0 0 f in rw add-zero at r

pub writer_fits : (l : Line) → Facts l → view_ok l.capacity l.view ≡ true → (i n : ℕ) (k : Place) → phase_at l i ≡ Phase.BusyWriting n k → fits l.view l.capacity k 1 ≡ true
writer_fits l F ok i n k e =
    let r : region_ok l (Phase.BusyWriting n k) ≡ true = rw e at (region_at l F.base i) in
    fits_part l.capacity l.view ok F.base.blocks k.0 n k.0 1 (every_nth (region_tests l (Phase.BusyWriting n k)) 2 r) (omega arith) (omega (arith, some_left l F i (Phase.BusyWriting n k) e refl))

module _ (x : State) (G : GoodState x) (h : 0 < x.line.lanes) where
  open_now : OpenNumbers x.line (length x.book)
  open_now = numbers x G h

  -- another pointer, another view, another size
  moved : (k : Place) → k.0 ≤ most_pointer → numbers_ok (with_pointer x.line k) (length x.book) ≡ true
  moved k p = let n = open_now in open_ok (with_pointer x.line k) (length x.book) h (record { lanes_fit = n.lanes_fit; least = n.least; most = n.most; sized = n.sized; reach = p; view = n.view; held = n.held })

  viewed_numbers : (v : View) → view_ok x.line.capacity v ≡ true → numbers_ok (with_pointer (with_view x.line v) (place 0)) (length x.book) ≡ true
  viewed_numbers v o = let n = open_now in open_ok (with_pointer (with_view x.line v) (place 0)) (length x.book) h (record { lanes_fit = n.lanes_fit; least = n.least; most = n.most; sized = n.sized; reach = omega arith; view = o; held = n.held })

  grown_numbers : (k : Place) (content : ℕ) → fits x.line.view x.line.capacity k 1 ≡ true → numbers_ok (grown x.line k) (length (book_with x k content)) ≡ true
  grown_numbers k content f =
      let n = open_now in
      let end = record_ends x.line.view x.line.capacity k f in
      let same = length-sets x.book (position_of x.line.view k).0 (big_endian 8 content) in
      open_ok (grown x.line k) (length (book_with x k content)) h (record { lanes_fit = n.lanes_fit; least = n.least; most = n.most; sized = omega (arith, n.sized, end); reach = n.reach; view = n.view; held = omega (arith, n.held, same) })

  -- the pointer after a run that fits from it
  fits_moved : (k c : ℕ) → k ≡ x.line.pointer.0 → fits x.line.view x.line.capacity (place k) c ≡ true → k + c ≤ most_pointer
  fits_moved k c e f = let n = open_now in fits_low x.line.capacity x.line.view n.view G.facts.base.blocks k c (omega (arith, n.reach)) n.most f

opened_numbers : (lanes capacity : ℕ) (b : List ℕ) → 1 ≤ lanes → lanes ≤ most_lanes → 8 ≤ capacity → capacity ≤ 65536 → capacity ≤ length b
    → numbers_ok (opened lanes capacity) (length (replicate capacity 0 ++ drop capacity b)) ≡ true
opened_numbers lanes capacity b h lanes_fit least most held =
    open_ok (opened lanes capacity) _ h
    (record {
      lanes_fit = lanes_fit;
      least = least;
      most = most;
      sized = omega arith;
      reach = omega arith;
      view = plain_ok capacity;
      held = simp (length-append, length-replicate, length-drop) (omega arith);
    })

pub keeps_numbers : {x : State} {c : Call} {r : Result} → GoodState x → Steps next_lane x c r → numbers_ok r.after.line (length r.after.book) ≡ true
keeps_numbers G (refuses n) = G.numbers
keeps_numbers {x} G (opens lanes capacity z a b d e f) = opened_numbers lanes capacity x.book a b d e f
keeps_numbers {x} G (wants i purpose h e g m) =
    at_test (λ (r : Result). numbers_ok r.after.line (length r.after.book) ≡ true) (others_down x.line i) _ _ (λ t. G.numbers) (λ t. G.numbers)
keeps_numbers G (receives i p v h e) = G.numbers
keeps_numbers {x} G (take_writes i c v h e f) =
    wake_numbers (taken x.line i c (Phase.Holding Purpose.SharedWrite v)) (next_of next_lane (taken x.line i c (Phase.Holding Purpose.SharedWrite v)) i) (length x.book)
    (moved x G (omega arith) (place (v.0 + c)) (fits_moved x G (omega arith) v.0 c (holding_value x.line G.facts i Purpose.SharedWrite v e) f))
keeps_numbers {x} G (take_reads i c v h e f) =
    wake_numbers (taken x.line i c (Phase.Holding Purpose.SharedRead v)) (next_of next_lane (taken x.line i c (Phase.Holding Purpose.SharedRead v)) i) (length x.book)
    (moved x G (omega arith) (place (v.0 + c)) f)
keeps_numbers {x} G (writes i content n k h e) =
    grown_numbers x G (omega arith) k content (writer_fits x.line G.facts (open_now x G (omega arith)).view i n k e)
keeps_numbers G (reads i n k h e) = G.numbers
keeps_numbers {x} G (puts i k content v h e f) = grown_numbers x G (omega arith) k content f
keeps_numbers G (looks i k v h e) = G.numbers
keeps_numbers {x} G (frees i v h e) = wake_numbers (freed x.line i) (next_of next_lane (freed x.line i) i) (length x.book) G.numbers
keeps_numbers {x} G (enters i c h e g f) =
    at_test (λ (r : Result). numbers_ok r.after.line (length r.after.book) ≡ true) (all_entered x.line (entered x.line i c)) _ _
    (λ t. moved x G (omega arith) (place (x.line.pointer.0 + gathered_total (entered x.line i c))) (fits_moved x G (omega arith) x.line.pointer.0 (gathered_total (entered x.line i c)) refl f))
    (λ t. G.numbers)
keeps_numbers {x} G (views displacement extent used blocks z o g) = viewed_numbers x G z (view_of displacement extent used blocks) o
keeps_numbers {x} G (seeks whence offset n z t m g) = moved x G z (place n) m

-- ---- the law
pub keeps : {x : State} {c : Call} {r : Result} → GoodState x → Steps next_lane x c r → GoodState r.after
keeps G s = record { numbers = keeps_numbers G s; facts = keeps_facts G s }

pub step_keeps_sound : (x : State) (c : Call) → Shaped x.line → sound x.line (length x.book) ≡ true
    → sound (step x c).after.line (length (step x c).after.book) ≡ true
step_keeps_sound x c shape e = sound_of _ _ (keeps (good_of x.line (length x.book) shape e) (steps next_lane x c))

-- an unopened line is sound, with a buffer of any length
pub unopened_good : (b : List ℕ) → GoodState (record { line = unopened; book = b })
unopened_good b = record { numbers = refl; facts = fresh_facts 0 0 (omega arith) }
