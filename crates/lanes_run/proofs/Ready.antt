-- What a sound line gives a lane's call of a sheet.
use Prim.Native.Nat.{ℕ, ◌+◌, ◌≤◌, ◌<◌}
use mathlib.Core.Path.{◌≡◌, sym, ◌∙◌}
use mathlib.Core.Bool.{true}
use mathlib.Core.List.{List}
use native.Mathlib.Omega.{arith}
use native.Mathlib.Decide.{dec_lt}
use lib.Dec.{eqb}
use lib.ListN.{length}
use borrow.Author.Tests.{eq-eqb, eqb-false, eqb-true}
use Rattle.lists.specs.Lists.{count_pass}
use Rattle.lists.proofs.Tests.{by_test, every_nth}
use mathlib.Core.List.{[], ◌∷◌}
use Rattle.limits.specs.Limits.{most_lanes, most_pointer}
use Rattle.view.specs.View.{fits, is_plain, view_ok}
use Rattle.view.proofs.Laws.{fits_low, is_plain_ok}
use Rattle.tiling.specs.Tiling.{records_of, table_fits, table_position, tiling_of}
use Rattle.tiling.specs.declared.Tiling.{Tiling}
use Rattle.tiling.proofs.Laws.{shows, table_fits_lem, table_position_lem}
use Rattle.line.specs.declared.Line.{Line}
use Rattle.line.specs.Line.{Shaped, is_gathered, on, place_in}
use Rattle.line.specs.Sound.{gathered_total, unopened_numbers}
use Rattle.line.proofs.Facts.{Good, when_open}
use Rattle.lane_tests.specs.Rules.{counts_of}
use Rattle.lane_tests.specs.declared.tallies.LaneCounts.{LaneCounts}
use Rattle.lane_tests.proofs.Counts.{active_has, active_most, gathered_most, total_none}
use Rattle.changes.specs.Change.{seen_of}
use Rattle.changes.specs.declared.Seen.{Seen}
use Rattle.changes.proofs.Within.{within_good}
use Rattle.record_calls.proofs.Regular.{next_fits}
use Rattle.ordered_calls.proofs.Steps.{tests_passed}
use Rattle.sheet_calls.specs.Calls.{Ready}

-- the numbers that open and unopened lines have alike
pub record Numbers (l : Line) : Type 0 where
  pub view : view_ok l.capacity l.view ≡ true
  pub most : l.capacity ≤ 65536
  pub reach : l.pointer.0 ≤ most_pointer

pub numbers_of : (l : Line) (n : ℕ) → Good l n → Numbers l
numbers_of l n G =
    elim (dec_lt 0 l.lanes) [
      | yes h ↦ let m = when_open l n h G.numbers in record { view = m.view; most = m.most; reach = m.reach }
      | no h ↦
          let tests : unopened_numbers l ≡ true = rw (eq-eqb l.lanes 0 (omega arith)) at G.numbers in
          let bs = eqb l.capacity 0 ∷ eqb l.size 0 ∷ eqb l.pointer.0 0 ∷ is_plain l.view ∷ [] in
          record {
            view = is_plain_ok l.capacity l.view (every_nth bs 3 tests);
            most = omega (arith, eqb-true l.capacity 0 (every_nth bs 0 tests));
            reach = omega (arith, eqb-true l.pointer.0 0 (every_nth bs 2 tests));
          }
    ]

module _ (l : Line) (n : ℕ) (shaped : Shaped l) (G : Good l n) where
  -- the pointer after records that fit from it is in its range
  low : (c : ℕ) → fits l.view l.capacity l.pointer c ≡ true → l.pointer.0 + c ≤ most_pointer
  low c f = let m = numbers_of l n G in fits_low l.capacity l.view m.view shaped.blocks_length l.pointer.0 c m.reach m.most f

  total_low : (counts_of l.lane).total ≤ most_pointer
  total_low =
      by_test (eqb (counts_of l.lane).gathered 0)
      (λ t. omega (arith, total_none l.lane (eqb-true _ 0 t)))
      (λ t. let z = eqb-false (counts_of l.lane).gathered 0 t in
      let some : 0 < count_pass (on is_gathered) l.lane = omega (arith, z) in
      omega (arith, low (gathered_total l.lane) (G.facts.gathering some).room))

  pub ready : (i : ℕ) → i < most_lanes → Ready (seen_of l i) (counts_of l.lane) (tiling_of l.view) (records_of l.view) n
  ready i below =
      let w = within_good l n G i in
      let index : i < length l.lane = omega (arith, shaped.lanes_length) in
      record {
        counted = record { own = active_has l.lane i index; few = omega (arith, active_most l.lane, shaped.lanes_length) };
        shows = shows l.capacity l.view (numbers_of l n G).view shaped.blocks_length;
        reach = w.reach;
        sized = w.sized;
        held = w.held;
        writer = next_fits (seen_of l i) l.view n w (table_position (tiling_of l.view) (records_of l.view) (place_in (seen_of l i).phase)) (table_position_lem l.view _);
        in_reach = λ c e.
            let passed = tests_passed (seen_of l i).phase (eqb (counts_of l.lane).active (counts_of l.lane).gathered) (table_fits (tiling_of l.view) (records_of l.view) l.capacity l.pointer ((counts_of l.lane).total + c)) (eqb ((counts_of l.lane).gathered + 1) l.lanes) e in
            low ((counts_of l.lane).total + c) (sym (table_fits_lem l.view l.capacity l.pointer ((counts_of l.lane).total + c)) ∙ passed.2);
        total = total_low;
        gathered = omega (arith, gathered_most l.lane, shaped.lanes_length);
      }

-- the same by other names
pub ready_as : (l : Line) (i : ℕ) {n : ℕ} {s : Seen} {counts : LaneCounts} {t : Tiling} {records : List ℕ} → s ≡ seen_of l i → counts ≡ counts_of l.lane → t ≡ tiling_of l.view → records ≡ records_of l.view
    → Ready (seen_of l i) (counts_of l.lane) (tiling_of l.view) (records_of l.view) n → Ready s counts t records n
ready_as l i sees same tiles table R = rw (sees, same, tiles, table) R
