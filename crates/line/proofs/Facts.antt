-- The sound line as facts: what the test says of a line that passes it, and back.
use Prim.Native.Nat.{ℕ, ◌+◌, ◌-◌, ◌≤◌, ◌<◌, min}
use mathlib.Core.Path.{◌≡◌, refl, ap, ◌∙◌}
use mathlib.Core.Logic.{◌≢◌}
use mathlib.Core.Bool.{Bool, true}
use mathlib.Core.List.{List, [], ◌∷◌, map}
use native.Mathlib.Omega.{arith}
use native.Mathlib.Decide.{dec_lt}
use lib.ListN.{drop, get_or, length, get_or-map}
use lib.Seq.{get_or-drop}
use lib.Dec.{eqb, leb, ltb}
use borrow.Author.Tests.{eq-eqb, eqb-true, le-leb, leb-true, lt-ltb, ltb-true, ne_eqb}
use Rattle.lists.specs.Lists.{all_pass, some_pass, count_pass, every, pairwise}
use Rattle.lists.proofs.Tests.{and_both, and_left, and_right, by_test, every_nth, implies_from, implies_use}
use Rattle.lists.proofs.Counts.{all_from, all_get_d, all_none, any_count, any_none, count_any, count_map, count_same, count_split, is_same, pairwise_at, pairwise_from, same_is}
use Rattle.view.specs.View.{fits, view_ok}
use Rattle.line.specs.declared.Phase.{Phase}
use Rattle.line.specs.declared.Lane.{Lane}
use Rattle.line.specs.declared.Line.{Line}
use Rattle.limits.specs.Limits.{most_lanes, most_pointer}
use Rattle.line.specs.Line.{Shaped, flag_for, has_turn, idle_lane, is_flagged, is_gathered, is_idle, is_idle_or_gathered, is_waiting, on, phase_at}
use Rattle.line.specs.Sound.{apart, apart_lanes, busy_ok, flags_ok, gathered_ok, gathered_total, numbers_ok, open_numbers, past_ok, region_ok, sound, turn_ok, value_ok}
use Rattle.line.proofs.Phases.{apart_idle, apart_sym, idle_is, no_value, up_kinds, up_one}

-- ---- the numbers of an open line
pub record OpenNumbers (l : Line) (buffer : ℕ) : Type 0 where
  pub lanes_fit : l.lanes ≤ most_lanes
  pub least : 8 ≤ l.capacity
  pub most : l.capacity ≤ 65536
  pub sized : l.size ≤ l.capacity
  pub reach : l.pointer.0 ≤ most_pointer
  pub view : view_ok l.capacity l.view ≡ true
  pub held : l.capacity ≤ buffer

module _ (l : Line) (buffer : ℕ) where
  tests : List Bool
  tests =
      leb l.lanes most_lanes
      ∷ leb 8 l.capacity
      ∷ leb l.capacity 65536
      ∷ leb l.size l.capacity
      ∷ leb l.pointer.0 most_pointer
      ∷ view_ok l.capacity l.view
      ∷ leb l.capacity buffer
      ∷ []

  pub open_numbers_lem : open_numbers l buffer ≡ true → OpenNumbers l buffer
  unfolding tests
  open_numbers_lem e =
      record {
        lanes_fit = leb-true l.lanes most_lanes (every_nth tests 0 e);
        least = leb-true 8 l.capacity (every_nth tests 1 e);
        most = leb-true l.capacity 65536 (every_nth tests 2 e);
        sized = leb-true l.size l.capacity (every_nth tests 3 e);
        reach = leb-true l.pointer.0 most_pointer (every_nth tests 4 e);
        view = every_nth tests 5 e;
        held = leb-true l.capacity buffer (every_nth tests 6 e);
      }

  pub numbers_open : OpenNumbers l buffer → open_numbers l buffer ≡ true
  numbers_open n =
      rw (le-leb l.lanes most_lanes n.lanes_fit, le-leb 8 l.capacity n.least, le-leb l.capacity 65536 n.most, le-leb l.size l.capacity n.sized, le-leb l.pointer.0 most_pointer n.reach, n.view, le-leb l.capacity buffer n.held)

  -- of a line with lanes
  pub when_open : 0 < l.lanes → numbers_ok l buffer ≡ true → OpenNumbers l buffer
  when_open h e = open_numbers_lem (rw (ne_eqb l.lanes 0 (λ z. omega arith)) at e)

  pub open_ok : 0 < l.lanes → OpenNumbers l buffer → numbers_ok l buffer ≡ true
  open_ok h n = rw (ne_eqb l.lanes 0 (λ z. omega arith)) (numbers_open n)

-- ---- the lanes and flags of a sound line
-- what holds of each lane and each two lanes
pub record Base (l : Line) : Type 0 where
  pub long : length l.lane ≡ most_lanes
  pub blocks : length l.view.block ≡ 8
  pub lanes_fit : l.lanes ≤ most_lanes
  pub flags : l.flag ≡ map (on flag_for) l.lane
  pub regions : all_pass (on (region_ok l)) l.lane ≡ true
  pub disjoint : (i j : ℕ) → i ≢ j → apart (phase_at l i) (phase_at l j) ≡ true
  pub past : (j : ℕ) → l.lanes ≤ j → phase_at l j ≡ Phase.Idle

-- exactly one lane has the turn where a flag is up, and none else; its value is the pointer
pub record Turn (l : Line) : Type 0 where
  pub one : count_pass (on has_turn) l.lane ≡ min 1 (count_pass (on is_flagged) l.lane)
  pub values : all_pass (on (value_ok l.pointer)) l.lane ≡ true

-- where a lane is gathered
pub record Gathering (l : Line) : Type 0 where
  pub ready : all_pass (on is_idle_or_gathered) l.lane ≡ true
  pub fewer : count_pass (on is_gathered) l.lane < l.lanes
  pub room : fits l.view l.capacity l.pointer (gathered_total l.lane) ≡ true

pub record Facts (l : Line) : Type 0 where
  pub base : Base l
  pub turn : Turn l
  pub gathering : 0 < count_pass (on is_gathered) l.lane → Gathering l

pub record Good (l : Line) (buffer : ℕ) : Type 0 where
  pub numbers : numbers_ok l buffer ≡ true
  pub facts : Facts l

-- ---- from the test to the facts
few_of : (l : Line) (buffer : ℕ) → numbers_ok l buffer ≡ true → l.lanes ≤ most_lanes
few_of l buffer e =
    elim (dec_lt 0 l.lanes) [ yes h ↦ (when_open l buffer h e).lanes_fit | no h ↦ omega arith ]

-- the flags that are 1 are those of the lanes that are up
flags_up : (l : Line) → l.flag ≡ map (on flag_for) l.lane → count_pass (eqb 1) l.flag ≡ count_pass (on is_flagged) l.lane
flags_up l f =
    ap (count_pass (eqb 1)) f ∙ count_map (on flag_for) (eqb 1) l.lane
    ∙ count_same (λ (x : Lane). eqb 1 (flag_for x.phase)) (on is_flagged) (λ x. up_one x.phase) l.lane

pub up_split : (ls : List Lane) → count_pass (on is_flagged) ls ≡ count_pass (on has_turn) ls + count_pass (on is_waiting) ls
up_split ls = count_split (on is_flagged) (on has_turn) (on is_waiting) (λ x. up_kinds x.phase) ls

no_turns : (l : Line) → count_pass (on has_turn) l.lane ≡ 0 → all_pass (on (value_ok l.pointer)) l.lane ≡ true
no_turns l z = all_none (on has_turn) (on (value_ok l.pointer)) (λ x e. no_value l.pointer x.phase e) l.lane z

turn_of : (l : Line) → l.flag ≡ map (on flag_for) l.lane → turn_ok l ≡ true → Turn l
turn_of l f e =
    by_test (some_pass (eqb 1) l.flag)
    (λ t. let r = implies_use (some_pass (eqb 1) l.flag) _ e t in
    let c = eqb-true (count_pass (on has_turn) l.lane) 1 (and_left _ (all_pass (on (value_ok l.pointer)) l.lane) r) in
    let u = any_count (eqb 1) l.flag t in
    record { one = omega (arith, flags_up l f); values = and_right (eqb (count_pass (on has_turn) l.lane) 1) _ r })
    (λ n. let z = any_none (eqb 1) l.flag n in
    let s = up_split l.lane in
    let none : count_pass (on has_turn) l.lane ≡ 0 = omega (arith, flags_up l f) in
    record { one = omega (arith, flags_up l f); values = no_turns l none })

past_of : (l : Line) → past_ok l ≡ true → (j : ℕ) → l.lanes ≤ j → phase_at l j ≡ Phase.Idle
past_of l e j h =
    let k : l.lanes + (j - l.lanes) ≡ j = omega arith in
    let g : get_or (drop l.lanes l.lane) (j - l.lanes) idle_lane ≡ get_or l.lane j idle_lane =
    get_or-drop l.lanes l.lane (j - l.lanes) idle_lane ∙ ap (λ (n : ℕ). get_or l.lane n idle_lane) k in
    idle_is (phase_at l j)
    (rw g at (all_get_d (on is_idle) (drop l.lanes l.lane) (j - l.lanes) idle_lane (and_left _ (all_pass (eqb 0) (drop l.lanes l.flag)) e) refl))

gathered_of : (l : Line) → gathered_ok l ≡ true → 0 < count_pass (on is_gathered) l.lane → Gathering l
gathered_of l e h =
    let bs = all_pass (on is_idle_or_gathered) l.lane ∷ ltb (count_pass (on is_gathered) l.lane) l.lanes ∷ fits l.view l.capacity l.pointer (gathered_total l.lane) ∷ [] in
    let r : every bs ≡ true = implies_use (some_pass (on is_gathered) l.lane) (every bs) e (count_any (on is_gathered) l.lane h) in
    record { ready = every_nth bs 0 r; fewer = ltb-true (count_pass (on is_gathered) l.lane) l.lanes (every_nth bs 1 r); room = every_nth bs 2 r }

pub good_of : (l : Line) (buffer : ℕ) → Shaped l → sound l buffer ≡ true → Good l buffer
unfolding sound
good_of l buffer shape e =
    let bs = numbers_ok l buffer ∷ flags_ok l ∷ turn_ok l ∷ gathered_ok l ∷ busy_ok l ∷ past_ok l ∷ [] in
    let f = same_is l.flag (map (on flag_for) l.lane) (every_nth bs 1 e) in
    let b = every_nth bs 4 e in
    record {
      numbers = every_nth bs 0 e;
      facts =
          record {
            base =
                record {
                  long = shape.lanes_length;
                  blocks = shape.blocks_length;
                  lanes_fit = few_of l buffer (every_nth bs 0 e);
                  flags = f;
                  regions = and_left (all_pass (on (region_ok l)) l.lane) (pairwise apart_lanes l.lane) b;
                  disjoint = pairwise_at apart_lanes idle_lane (λ x y. apart_sym x.phase y.phase) (λ x. apart_idle x.phase) l.lane (and_right (all_pass (on (region_ok l)) l.lane) (pairwise apart_lanes l.lane) b);
                  past = past_of l (every_nth bs 5 e);
                };
            turn = turn_of l f (every_nth bs 2 e);
            gathering = gathered_of l (every_nth bs 3 e);
          };
    }

-- ---- from the facts to the test
turn_ok_lem : (l : Line) → Facts l → turn_ok l ≡ true
turn_ok_lem l F =
    implies_from (some_pass (eqb 1) l.flag) _
    (λ t. let u = any_count (eqb 1) l.flag t in
    let c : count_pass (on has_turn) l.lane ≡ 1 = omega (arith, flags_up l F.base.flags, F.turn.one) in
    and_both (eqb (count_pass (on has_turn) l.lane) 1) _ (eq-eqb (count_pass (on has_turn) l.lane) 1 c) F.turn.values)

gathered_ok_lem : (l : Line) → Facts l → gathered_ok l ≡ true
gathered_ok_lem l F =
    implies_from (some_pass (on is_gathered) l.lane) _
    (λ t. let r = F.gathering (any_count (on is_gathered) l.lane t) in
    rw (r.ready, lt-ltb (count_pass (on is_gathered) l.lane) l.lanes r.fewer, r.room))

flag_past : (l : Line) → Facts l → (j : ℕ) → l.lanes ≤ j → get_or l.flag j 0 ≡ 0
flag_past l F j h = rw F.base.flags (get_or-map (on flag_for) l.lane j idle_lane ∙ rw (F.base.past j h))

past_ok_lem : (l : Line) → Facts l → past_ok l ≡ true
past_ok_lem l F =
    and_both _ _
    (all_from (on is_idle) (drop l.lanes l.lane) idle_lane
    (λ i h. rw (get_or-drop l.lanes l.lane i idle_lane, F.base.past (l.lanes + i) (omega arith))))
    (all_from (eqb 0) (drop l.lanes l.flag) 0
    (λ i h. rw (get_or-drop l.lanes l.flag i 0, flag_past l F (l.lanes + i) (omega arith))))

pub sound_of : (l : Line) (buffer : ℕ) → Good l buffer → sound l buffer ≡ true
unfolding sound
sound_of l buffer G =
    let F = G.facts in
    let f : flags_ok l ≡ true = rw F.base.flags (is_same (map (on flag_for) l.lane)) in
    let b : busy_ok l ≡ true = and_both _ _ F.base.regions (pairwise_from apart_lanes l.lane idle_lane F.base.disjoint) in
    rw (G.numbers, f, turn_ok_lem l F, gathered_ok_lem l F, b, past_ok_lem l F)
