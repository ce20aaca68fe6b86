-- What a sound line gives a lane's call.
use Prim.Native.Nat.{ℕ, ◌+◌, ◌≤◌, ◌<◌}
use mathlib.Core.Path.{◌≡◌, refl}
use mathlib.Core.Bool.{true}
use native.Mathlib.Omega.{arith}
use native.Mathlib.Decide.{dec_lt}
use lib.Dec.{eqb, leb}
use borrow.Author.Tests.{eq-eqb, eqb-true, leb-true}
use Rattle.lists.proofs.Counts.{all_get_d}
use Rattle.lists.proofs.Tests.{and_left, and_right, implies_from}
use Rattle.line.specs.declared.Phase.{Phase}
use Rattle.line.specs.declared.Line.{Line}
use Rattle.line.specs.Line.{Shaped, idle_lane, is_writing, left_in, on, phase_at, place_in}
use Rattle.line.specs.Sound.{region_ok, sound, unopened_numbers, value_ok}
use Rattle.line.proofs.Facts.{Good, good_of, when_open}
use Rattle.line.proofs.Phases.{writing_is}
use Rattle.steps.proofs.Keeps.{writer_fits}
use Rattle.steps.proofs.Stored.{region_at}
use Rattle.changes.specs.Change.{Within, seen_of}

-- the place that a phase carries is at most the pointer
place_most : (l : Line) (x : Phase) → region_ok l x ≡ true → value_ok l.pointer x ≡ true → (place_in x).0 ≤ l.pointer.0
place_most l Phase.Idle r v = omega arith
place_most l (Phase.Waiting p) r v = omega arith
place_most l (Phase.Woken p k) r v = omega (arith, eqb-true k.0 l.pointer.0 v)
place_most l (Phase.Holding p k) r v = omega (arith, eqb-true k.0 l.pointer.0 v)
place_most l (Phase.BusyWriting left k) r v =
    omega (arith, leb-true (k.0 + left) l.pointer.0 (and_left _ _ (and_right (leb 1 left) _ r)))
place_most l (Phase.BusyReading left k) r v =
    omega (arith, leb-true (k.0 + left) l.pointer.0 (and_left _ _ (and_right (leb 1 left) _ r)))
place_most l (Phase.Gathered n) r v = omega arith

module _ (l : Line) (n : ℕ) (G : Good l n) (i : ℕ) where
  -- of a line with lanes
  within_open : 0 < l.lanes → Within (seen_of l i) l.view n
  within_open h =
      let m = when_open l n h G.numbers in
      let x = phase_at l i in
      let most = place_most l x (region_at l G.facts.base i) (all_get_d (on (value_ok l.pointer)) l.lane i idle_lane G.facts.turn.values refl) in
      record {
        lanes_fit = m.lanes_fit;
        sized = omega (arith, m.sized, m.held);
        held = m.held;
        reach = omega (arith, m.reach, most);
        writer = implies_from (is_writing x) _ (λ w. writer_fits l G.facts m.view i (left_in x) (place_in x) (writing_is x w));
      }

  -- of an unopened line, whose lanes are all idle
  within_unopened : l.lanes ≡ 0 → Within (seen_of l i) l.view n
  within_unopened z =
      let numbers : unopened_numbers l ≡ true = rw (eq-eqb l.lanes 0 z) at G.numbers in
      let capacity = eqb-true l.capacity 0 (and_left _ _ numbers) in
      let size = eqb-true l.size 0 (and_left _ _ (and_right (eqb l.capacity 0) _ numbers)) in
      let idle : phase_at l i ≡ Phase.Idle = G.facts.base.past i (omega arith) in
      record {
        lanes_fit = omega arith;
        sized = omega arith;
        held = omega arith;
        reach = rw idle (omega arith);
        writer = rw idle;
      }

  pub within_good : Within (seen_of l i) l.view n
  within_good = elim (dec_lt 0 l.lanes) [ yes h ↦ within_open h | no h ↦ within_unopened (omega arith) ]

pub within_of : (l : Line) (n : ℕ) → Shaped l → sound l n ≡ true → (i : ℕ) → Within (seen_of l i) l.view n
within_of l n shape ok i = within_good l n (good_of l n shape ok) i
