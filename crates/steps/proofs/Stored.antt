-- A line with another phase for one lane: what holds of its lanes and flags is kept.
use Prim.Native.Nat.{ℕ, ◌+◌, ◌≤◌, ◌<◌}
use mathlib.Core.Path.{◌≡◌, refl, sym, ap, ◌∙◌}
use mathlib.Core.Logic.{◌≢◌}
use mathlib.Core.Bool.{Bool, true}
use mathlib.Core.List.{List, [], ◌∷◌, map}
use native.Mathlib.Omega.{arith}
use native.Mathlib.Decide.{ℕ_discrete}
use lib.ListN.{get_or, length, length-set, set}
use lib.Seq.{get_or-set_other, get_or-set_same, map-set_same}
use lib.Dec.{leb}
use borrow.Author.Tests.{le-leb, leb-true}
use Rattle.lists.specs.Lists.{all_pass, bit, count_pass, every, implies}
use Rattle.lists.proofs.Tests.{every_nth, implies_from, implies_use}
use Rattle.lists.proofs.Counts.{all_count, all_get_d, all_mono, all_set, count_four, count_set, count_split, map_set}
use Rattle.view.specs.View.{fits}
use Rattle.view.specs.declared.Place.{Place}
use Rattle.line.specs.declared.Phase.{Phase}
use Rattle.line.specs.declared.Lane.{Lane}
use Rattle.line.specs.declared.Line.{Line}
use Rattle.line.specs.Line.{flag_for, idle_lane, is_busy, is_flagged, is_gathered, is_idle, is_idle_or_gathered, is_writing, lane, left_in, on, phase_at, place_in}
use Rattle.line.specs.Sound.{apart, region_end, region_ok}
use Rattle.line.proofs.Phases.{apart_sym, phase_kinds, ready_kinds}
use Rattle.line.proofs.Facts.{Base, Gathering}
use Rattle.steps.specs.State.{with_pointer}

-- lane i in phase y, with this pointer and these flags
abbrev pub stored : Line → ℕ → Phase → Place → List ℕ → Line
stored l i y k f =
    record { lanes = l.lanes; capacity = l.capacity; size = l.size; pointer = k; view = l.view; lane = set l.lane i (lane y); flag = f }

-- the lanes with lane i in phase y
abbrev pub placed : Line → ℕ → Phase → List Lane
placed l i y = set l.lane i (lane y)

-- ---- a region stays as it should be while the pointer rises
pub region_rises : (l : Line) (k : Place) → l.pointer.0 ≤ k.0 → (y : Phase) → region_ok l y ≡ true → region_ok (with_pointer l k) y ≡ true
region_rises l k h y e =
    implies_from (is_busy y) _
    (λ t. let bs = leb 1 (left_in y) ∷ leb (region_end y) l.pointer.0 ∷ implies (is_writing y) (fits l.view l.capacity (place_in y) (left_in y)) ∷ [] in
    let r = implies_use (is_busy y) (every bs) e t in
    let low = leb-true (region_end y) l.pointer.0 (every_nth bs 1 r) in
    rw (every_nth bs 0 r, le-leb (region_end y) k.0 (omega arith), every_nth bs 2 r))

pub other_phase : (l : Line) (i j : ℕ) (y : Phase) → j ≢ i → (get_or (placed l i y) j idle_lane).phase ≡ phase_at l j
other_phase l i j y n = ap (λ (x : Lane). x.phase) (get_or-set_other l.lane i j (lane y) idle_lane n)

module _ (l : Line) (B : Base l) where
  pub short : (i : ℕ) → i < l.lanes → i < length l.lane
  short i h = omega (arith, B.long, B.lanes_fit)

  pub same_phase : (i : ℕ) (y : Phase) → i < l.lanes → (get_or (placed l i y) i idle_lane).phase ≡ y
  same_phase i y h = ap (λ (x : Lane). x.phase) (get_or-set_same l.lane i (lane y) idle_lane (short i h))

  pub region_at : (i : ℕ) → region_ok l (phase_at l i) ≡ true
  region_at i = all_get_d (on (region_ok l)) l.lane i idle_lane B.regions refl

  -- a store changes each count by the phase that goes and the one that comes
  pub recount : (p : Phase → Bool) (i : ℕ) (o y : Phase) → i < l.lanes → phase_at l i ≡ o → count_pass (on p) (placed l i y) + bit (p o) ≡ count_pass (on p) l.lane + bit (p y)
  recount p i o y h e = rw e at (count_set (on p) l.lane i (lane y) idle_lane (short i h))

  pub store_base : (i : ℕ) (y : Phase) (k : Place) (f : List ℕ) → i < l.lanes → l.pointer.0 ≤ k.0 → f ≡ map (on flag_for) (placed l i y)
      → region_ok (with_pointer l k) y ≡ true → ((j : ℕ) → j ≢ i → apart y (phase_at l j) ≡ true) → Base (stored l i y k f)
  store_base i y k f h rise flags ok away =
      record {
        long = length-set l.lane i (lane y) ∙ B.long;
        blocks = B.blocks;
        lanes_fit = B.lanes_fit;
        flags = flags;
        regions = all_set (on (region_ok (with_pointer l k))) l.lane i (lane y) (all_mono (on (region_ok l)) (on (region_ok (with_pointer l k))) (λ x e. region_rises l k rise x.phase e) l.lane B.regions) ok;
        disjoint = disjoint;
        past = λ j p. other_phase l i j y (λ z. omega arith) ∙ B.past j p;
      }
    where
      disjoint : (a b : ℕ) → a ≢ b → apart (get_or (placed l i y) a idle_lane).phase (get_or (placed l i y) b idle_lane).phase ≡ true
      disjoint a b n =
          elim (ℕ_discrete a i) [
            | yes p ↦ let q : b ≢ i = λ z. n (p ∙ sym z) in rw (p, same_phase i y h, other_phase l i b y q) (away b q)
            | no p ↦ elim (ℕ_discrete b i) [
              | yes q ↦ rw (q, same_phase i y h, other_phase l i a y p) (apart_sym y (phase_at l a) (away a p))
              | no q ↦ rw (other_phase l i a y p, other_phase l i b y q) (B.disjoint a b n)
            ]
          ]

  -- the flags after a store: the lane's own with its phase, or all as they were where the new phase has the old one's flag
  pub flags_set : (i : ℕ) (y : Phase) (f : ℕ) → f ≡ flag_for y → set l.flag i f ≡ map (on flag_for) (placed l i y)
  flags_set i y f e = rw (map_set (on flag_for) l.lane i (lane y), B.flags, e)

  pub flags_same : (i : ℕ) (y : Phase) → flag_for y ≡ flag_for (phase_at l i) → l.flag ≡ map (on flag_for) (placed l i y)
  flags_same i y e = B.flags ∙ sym (map-set_same (on flag_for) l.lane i (lane y) idle_lane e)

-- ---- counts of a sound line's lanes
pub kinds_count : (ls : List Lane) → count_pass (on is_idle) ls + count_pass (on is_gathered) ls + count_pass (on is_flagged) ls + count_pass (on is_busy) ls ≤ length ls
kinds_count ls = count_four (on is_idle) (on is_gathered) (on is_flagged) (on is_busy) (λ x. phase_kinds x.phase) ls

-- lanes that are all idle or gathered
pub ready_count : (ls : List Lane) → all_pass (on is_idle_or_gathered) ls ≡ true → count_pass (on is_idle) ls + count_pass (on is_gathered) ls ≡ length ls
ready_count ls e =
    sym (count_split (on is_idle_or_gathered) (on is_idle) (on is_gathered) (λ x. ready_kinds x.phase) ls) ∙ all_count (on is_idle_or_gathered) ls e

-- where a lane is gathered, idle and gathered lanes are all there are
pub ready_length : (l : Line) → Gathering l → count_pass (on is_idle) l.lane + count_pass (on is_gathered) l.lane ≡ length l.lane
ready_length l g = ready_count l.lane g.ready
