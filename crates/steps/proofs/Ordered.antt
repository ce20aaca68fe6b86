-- An ordered call keeps a sound line sound: a lane enters, and the last one to enter starts all of them.
use Prim.Native.Nat.{ℕ, zero, suc, ◌+◌, ◌≤◌, ◌<◌}
use mathlib.Core.Path.{◌≡◌, refl, sym, ap, ◌∙◌}
use mathlib.Core.Logic.{◌≢◌}
use mathlib.Core.Bool.{Bool, true, false, cond, ◌&&◌, or-false}
use mathlib.Core.List.{List, [], ◌∷◌, map}
use native.Mathlib.Omega.{arith}
use native.Mathlib.Decide.{dec_lt}
use lib.ListN.{get_or, length, replicate}
use lib.Dec.{eqb}
use borrow.Author.Tests.{eqb-false, eqb-true, le-leb}
use Rattle.lists.specs.Lists.{all_pass, bit, count_pass}
use Rattle.lists.proofs.Tests.{and_both, and_left, and_right, at_test, implies_from, not_zero, by_test}
use Rattle.lists.proofs.Counts.{all_none, all_set, bit_zero}
use Rattle.view.specs.View.{fits, place, view_ok}
use Rattle.view.specs.declared.Place.{Place}
use Rattle.view.proofs.Laws.{fits_part}
use Rattle.line.specs.declared.Phase.{Phase}
use Rattle.line.specs.declared.Lane.{Lane}
use Rattle.line.specs.declared.Line.{Line}
use Rattle.line.specs.Line.{count_in, flag_for, has_turn, idle_lane, is_busy, is_flagged, is_gathered, is_idle_or_gathered, lane, on, phase_at, is_idle}
use Rattle.line.specs.Sound.{apart, gathered_total, region_end, region_ok, value_ok}
use Rattle.line.proofs.Phases.{apart_idle, apart_sym, flag_down, no_value, idle_is}
use Rattle.line.proofs.Facts.{Base, Facts, up_split}
use Rattle.steps.specs.State.{with_lanes, with_pointer}
use Rattle.steps.specs.Effects.{all_entered, entered, started, started_at, writing}
use Rattle.steps.proofs.Stored.{flags_same, kinds_count, ready_count, recount, store_base}

-- ---- a region of n records from a place, or none where n is 0
-- what holds of an idle lane, and of a busy one that has a record left
pub busy_by : (P : Phase → Type 0) (n : ℕ) (y : Phase) → (n ≡ 0 → P Phase.Idle) → (0 < n → P y) → P (cond (eqb n 0) Phase.Idle y)
busy_by P n y a b = at_test P (eqb n 0) Phase.Idle y (λ t. a (eqb-true n 0 t)) (λ f. b (not_zero n f))

abbrev start : ℕ → ℕ → Phase
start n k = writing n (place k)

-- a test that neither an idle lane nor a busy writer passes
start_fails : (p : Phase → Bool) → p Phase.Idle ≡ false → ((n : ℕ) (k : Place) → p (Phase.BusyWriting n k) ≡ false) → (n k : ℕ) → p (start n k) ≡ false
start_fails p a b n k = busy_by (λ (y : Phase). p y ≡ false) n (Phase.BusyWriting n (place k)) (λ z. a) (λ h. b n (place k))

start_end : (n k : ℕ) → region_end (start n k) ≤ k + n
start_end n k = busy_by (λ (y : Phase). region_end y ≤ k + n) n (Phase.BusyWriting n (place k)) (λ z. omega arith) (λ h. omega arith)

-- it shares nothing with a region that ends at or below its first place
start_apart : (y : Phase) (n k : ℕ) → region_end y ≤ k → apart y (start n k) ≡ true
start_apart y n k h =
    busy_by (λ (z : Phase). apart y z ≡ true) n (Phase.BusyWriting n (place k)) (λ z. apart_idle y)
    (λ p. implies_from (is_busy y && true) _ (λ t. rw (le-leb (region_end y) k h)))

-- it is as it should be where it fits and ends at or below the pointer
start_region : (l : Line) (n k : ℕ) → k + n ≤ l.pointer.0 → fits l.view l.capacity (place k) n ≡ true → region_ok l (start n k) ≡ true
start_region l n k h f =
    busy_by (λ (y : Phase). region_ok l y ≡ true) n (Phase.BusyWriting n (place k)) (λ z. refl)
    (λ p. rw (le-leb 1 n p, le-leb (k + n) l.pointer.0 h, f))

-- ---- the lanes' starts, by their counts alone
unfoldable pub starts : ℕ → List Lane → List Lane
starts k [] = []
starts k (x ∷ xs) = lane (start (count_in x.phase) k) ∷ starts (k + count_in x.phase) xs

ready_start : (k : ℕ) (y : Phase) → is_idle_or_gathered y ≡ true → started_at k y ≡ start (count_in y) k
ready_start k y e =
    by_test (is_gathered y) (λ g. rw g) (λ g. rw (idle_is y (rw (g, or-false (is_idle y)) at e)))

pub started_length : (k : ℕ) (ls : List Lane) → length (started k ls) ≡ length ls
unfolding started
started_length k [] = refl
started_length k (x ∷ xs) = rw (started_length (k + count_in x.phase) xs)

pub started_starts : (k : ℕ) (ls : List Lane) → all_pass (on is_idle_or_gathered) ls ≡ true → started k ls ≡ starts k ls
unfolding started starts
started_starts k [] e = refl
started_starts k (x ∷ xs) e =
    rw (ready_start k x.phase (and_left (is_idle_or_gathered x.phase) (all_pass (on is_idle_or_gathered) xs) e), started_starts (k + count_in x.phase) xs (and_right (is_idle_or_gathered x.phase) (all_pass (on is_idle_or_gathered) xs) e))

starts_length : (k : ℕ) (ls : List Lane) → length (starts k ls) ≡ length ls
unfolding starts
starts_length k [] = refl
starts_length k (x ∷ xs) = ap suc (starts_length (k + count_in x.phase) xs)

starts_none : (p : Phase → Bool) → p Phase.Idle ≡ false → ((n : ℕ) (v : Place) → p (Phase.BusyWriting n v) ≡ false) → (k : ℕ) (ls : List Lane) → count_pass (on p) (starts k ls) ≡ 0
unfolding starts
starts_none p a b k [] = refl
starts_none p a b k (x ∷ xs) = rw (start_fails p a b (count_in x.phase) k, starts_none p a b (k + count_in x.phase) xs)

-- what holds of an idle lane and of a busy writer holds of each lane after the start
pub started_by : (P : Phase → Type 0) → P Phase.Idle → ((n : ℕ) (v : Place) → P (Phase.BusyWriting n v)) → (k : ℕ) (ls : List Lane)
    → all_pass (on is_idle_or_gathered) ls ≡ true → (j : ℕ) → P (get_or (started k ls) j idle_lane).phase
unfolding starts
started_by P a b k ls e j = rw (started_starts k ls e) (go k ls j)
  where
    go : (k : ℕ) (ls : List Lane) (j : ℕ) → P (get_or (starts k ls) j idle_lane).phase
    go k [] j = a
    go k (x ∷ xs) zero = busy_by P (count_in x.phase) (Phase.BusyWriting (count_in x.phase) (place k)) (λ z. a) (λ h. b (count_in x.phase) (place k))
    go k (x ∷ xs) (suc j) = go (k + count_in x.phase) xs j

-- all lanes are idle or gathered after one more has entered
pub entered_all : (l : Line) (i c : ℕ) → all_pass (on is_idle_or_gathered) l.lane ≡ true → all_pass (on is_idle_or_gathered) (entered l i c) ≡ true
entered_all l i c ready = all_set (on is_idle_or_gathered) l.lane i (lane (Phase.Gathered c)) ready refl

-- no flag is up before or after
zero_flags : (ls : List Lane) → count_pass (on is_flagged) ls ≡ 0 → map (on flag_for) ls ≡ replicate (length ls) 0
zero_flags [] z = refl
zero_flags (x ∷ xs) z = rw (flag_down x.phase (bit_zero (is_flagged x.phase) (omega arith)), zero_flags xs (omega arith))

starts_at : (k : ℕ) (ls : List Lane) (j : ℕ) → (get_or ls j idle_lane).phase ≡ Phase.Idle → (get_or (starts k ls) j idle_lane).phase ≡ Phase.Idle
unfolding starts
starts_at k [] j e = refl
starts_at k (x ∷ xs) zero e = rw e
starts_at k (x ∷ xs) (suc j) e = starts_at (k + count_in x.phase) xs j e

starts_apart : (y : Phase) (k : ℕ) (ls : List Lane) (j : ℕ) → region_end y ≤ k → apart y (get_or (starts k ls) j idle_lane).phase ≡ true
unfolding starts
starts_apart y k [] j h = apart_idle y
starts_apart y k (x ∷ xs) zero h = start_apart y (count_in x.phase) k h
starts_apart y k (x ∷ xs) (suc j) h = starts_apart y (k + count_in x.phase) xs j (omega arith)

starts_disjoint : (k : ℕ) (ls : List Lane) (i j : ℕ) → i ≢ j → apart (get_or (starts k ls) i idle_lane).phase (get_or (starts k ls) j idle_lane).phase ≡ true
unfolding starts
starts_disjoint k [] i j n = refl
starts_disjoint k (x ∷ xs) zero zero n = absurd (n refl)
starts_disjoint k (x ∷ xs) zero (suc j) n = starts_apart (start (count_in x.phase) k) (k + count_in x.phase) xs j (start_end (count_in x.phase) k)
starts_disjoint k (x ∷ xs) (suc i) zero n =
    apart_sym (start (count_in x.phase) k) (get_or (starts (k + count_in x.phase) xs) i idle_lane).phase
    (starts_apart (start (count_in x.phase) k) (k + count_in x.phase) xs i (start_end (count_in x.phase) k))
starts_disjoint k (x ∷ xs) (suc i) (suc j) n = starts_disjoint (k + count_in x.phase) xs i j (λ e. n (ap suc e))

starts_regions : (l : Line) (k : ℕ) (ls : List Lane) → k + gathered_total ls ≤ l.pointer.0
    → ((a b : ℕ) → k ≤ a → a + b ≤ k + gathered_total ls → fits l.view l.capacity (place a) b ≡ true) → all_pass (on (region_ok l)) (starts k ls) ≡ true
unfolding starts
starts_regions l k [] h f = refl
starts_regions l k (x ∷ xs) h f =
    and_both _ _ (start_region l (count_in x.phase) k (omega arith) (f k (count_in x.phase) (omega arith) (omega arith)))
    (starts_regions l (k + count_in x.phase) xs (omega arith) (λ a b u w. f a b (omega arith) (omega arith)))

-- ---- a lane enters
module _ (l : Line) (F : Facts l) (i c : ℕ) (h : i < l.lanes) (e : phase_at l i ≡ Phase.Idle) (ready : all_pass (on is_idle_or_gathered) l.lane ≡ true)
    (room : fits l.view l.capacity l.pointer (gathered_total (entered l i c)) ≡ true) where
  counted : (p : Phase → Bool) → count_pass (on p) (entered l i c) + bit (p Phase.Idle) ≡ count_pass (on p) l.lane + bit (p (Phase.Gathered c))
  counted p = recount l F.base p i Phase.Idle (Phase.Gathered c) h e

  entered_up : count_pass (on is_flagged) (entered l i c) ≡ 0
  entered_up = omega (arith, counted is_flagged, kinds_count l.lane, ready_count l.lane ready)

  entered_turn : count_pass (on has_turn) (entered l i c) ≡ 0
  entered_turn = omega (arith, up_split (entered l i c), entered_up)

  entered_flags : l.flag ≡ map (on flag_for) (entered l i c)
  entered_flags = flags_same l F.base i (Phase.Gathered c) (rw e)

  entered_base : Base (with_lanes l (entered l i c))
  entered_base = store_base l F.base i (Phase.Gathered c) l.pointer l.flag h (omega arith) entered_flags refl (λ j n. refl)

  entered_ready : all_pass (on is_idle_or_gathered) (entered l i c) ≡ true
  entered_ready = entered_all l i c ready

  -- as many as there are lanes at the most
  pub entered_most : count_pass (on is_gathered) (entered l i c) ≤ l.lanes
  entered_most =
      elim (dec_lt 0 (count_pass (on is_gathered) l.lane)) [
        | yes p ↦ omega (arith, counted is_gathered, (F.gathering p).fewer)
        | no p ↦ omega (arith, counted is_gathered)
      ]

  pub enter_facts : all_entered l (entered l i c) ≡ false → Facts (with_lanes l (entered l i c))
  enter_facts q =
      let not-all = eqb-false (count_pass (on is_gathered) (entered l i c)) l.lanes q in
      let lanes_fit : count_pass (on is_gathered) (entered l i c) ≢ l.lanes = not-all in
      record {
        base = entered_base;
        turn =
            record {
              one = omega (arith, entered_turn, entered_up);
              values = all_none (on has_turn) (on (value_ok l.pointer)) (λ x t. no_value l.pointer x.phase t) (entered l i c) entered_turn;
            };
        gathering = λ g. record { ready = entered_ready; fewer = omega (arith, entered_most); room = room };
      }

  -- ---- and is the last one to enter
  module _ (ok : view_ok l.capacity l.view ≡ true) where
    abbrev completed : Line
    completed = with_pointer (with_lanes l (starts l.pointer.0 (entered l i c))) (place (l.pointer.0 + gathered_total (entered l i c)))

    none_of : (p : Phase → Bool) → p Phase.Idle ≡ false → ((n : ℕ) (v : Place) → p (Phase.BusyWriting n v) ≡ false) → count_pass (on p) (starts l.pointer.0 (entered l i c)) ≡ 0
    none_of p a b = starts_none p a b l.pointer.0 (entered l i c)

    completed_flags : l.flag ≡ map (on flag_for) (starts l.pointer.0 (entered l i c))
    completed_flags =
        entered_flags ∙ zero_flags (entered l i c) entered_up
        ∙ sym (zero_flags (starts l.pointer.0 (entered l i c)) (none_of is_flagged refl (λ n v. refl)) ∙ ap (λ (n : ℕ). replicate n 0) (starts_length l.pointer.0 (entered l i c)))

    completed_facts : Facts completed
    completed_facts =
        record {
          base =
              record {
                long = starts_length l.pointer.0 (entered l i c) ∙ entered_base.long;
                blocks = F.base.blocks;
                lanes_fit = F.base.lanes_fit;
                flags = completed_flags;
                regions = starts_regions completed l.pointer.0 (entered l i c) (omega arith) (λ a b u w. fits_part l.capacity l.view ok F.base.blocks l.pointer.0 (gathered_total (entered l i c)) a b room u w);
                disjoint = λ a b n. starts_disjoint l.pointer.0 (entered l i c) a b n;
                past = λ j p. starts_at l.pointer.0 (entered l i c) j (entered_base.past j p);
              };
          turn =
              record {
                one = omega (arith, none_of has_turn refl (λ n v. refl), none_of is_flagged refl (λ n v. refl));
                values = all_none (on has_turn) (on (value_ok completed.pointer)) (λ x t. no_value completed.pointer x.phase t) completed.lane (none_of has_turn refl (λ n v. refl));
              };
          gathering = λ g. absurd (omega (arith, none_of is_gathered refl (λ n v. refl)));
        }

    pub complete_facts : Facts (with_pointer (with_lanes l (started l.pointer.0 (entered l i c))) (place (l.pointer.0 + gathered_total (entered l i c))))
    complete_facts = rw (started_starts l.pointer.0 (entered l i c) entered_ready) completed_facts
