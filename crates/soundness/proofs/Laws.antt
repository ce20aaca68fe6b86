-- What flags that are those of the phases give, the regions of a line whose pointer is low enough, and the test of the plain view.
use Prim.Native.Nat.{ℕ, zero, suc, ◌≤◌}
use mathlib.Core.Path.{◌≡◌, refl, sym, ap, ◌∙◌}
use mathlib.Core.Bool.{Bool, true, false, and-true, ◌&&◌}
use mathlib.Core.List.{List, [], ◌∷◌, map}
use native.Mathlib.Omega.{arith}
use lib.ListN.{drop, length, replicate}
use lib.Dec.{eqb, leb, ltb}
use lib.Pointwise.{pointwise}
use borrow.Author.Tests.{eqb-true, le-leb, leb-true}
use Rattle.lists.specs.Lists.{all_pass, some_pass, count_pass, every, implies}
use Rattle.lists.proofs.Counts.{all_mono, same_is}
use Rattle.lists.proofs.Maps.{all_map, any_count, any_map, drop_map}
use Rattle.lists.proofs.Tests.{and_both, by_test, every_nth, implies_from, implies_use}
use Rattle.limits.specs.Limits.{most_pointer}
use Rattle.view.specs.View.{block, fits, is_plain, is_plain_blocks, is_unused}
use Rattle.view.specs.declared.Block.{Block}
use Rattle.view.specs.declared.View.{View}
use Rattle.line.specs.Line.{flag_for, is_busy, is_idle, is_writing, left_in, on, place_in}
use Rattle.line.specs.Sound.{flags_ok, numbers_ok, past_ok, region_end, region_ok}
use Rattle.line.specs.declared.Line.{Line}
use Rattle.line.specs.declared.Phase.{Phase}
use Rattle.line.proofs.Facts.{open_numbers_lem}
use Rattle.line.proofs.Phases.{numbered}
use Rattle.lane_tests.specs.Places.{region_within}
use Rattle.lane_tests.specs.Rules.{flag_is_one}

-- ---- flags that are those of the phases
idle_flag : (x : Phase) → is_idle x ≡ true → eqb 0 (flag_for x) ≡ true
idle_flag x e = rw (numbered x 0 e)

module _ (l : Line) (ok : flags_ok l ≡ true) where
  same : l.flag ≡ map (on flag_for) l.lane
  same = same_is l.flag (map (on flag_for) l.lane) ok

  -- a flag is up where a phase has one
  pub raised_any : some_pass (eqb 1) l.flag ≡ ltb 0 (count_pass (on flag_is_one) l.lane)
  raised_any = rw same (any_map (on flag_for) (eqb 1) l.lane ∙ any_count (on flag_is_one) l.lane)

  idle_past : all_pass (on is_idle) (drop l.lanes l.lane) ≡ true → all_pass (eqb 0) (drop l.lanes l.flag) ≡ true
  idle_past idle =
      rw (same, drop_map (on flag_for) l.lanes l.lane, all_map (on flag_for) (eqb 0) (drop l.lanes l.lane))
      (all_mono (on is_idle) (λ x. eqb 0 (flag_for x.phase)) (λ x e. idle_flag x.phase e) (drop l.lanes l.lane) idle)

  -- past N it is enough that the lanes are idle
  pub past_idle : all_pass (on is_idle) (drop l.lanes l.lane) ≡ past_ok l
  past_idle = by_test (all_pass (on is_idle) (drop l.lanes l.lane)) refl idle_past
    where
      by_test : (b : Bool) → all_pass (on is_idle) (drop l.lanes l.lane) ≡ b → (b ≡ true → all_pass (eqb 0) (drop l.lanes l.flag) ≡ true) → b ≡ (b && all_pass (eqb 0) (drop l.lanes l.flag))
      by_test true e f = sym (f refl)
      by_test false e f = refl

-- ---- the regions
-- numbers that are in range have a pointer that is
pub pointer_low : (l : Line) (buffer : ℕ) → numbers_ok l buffer ≡ true → l.pointer.0 ≤ most_pointer
pointer_low l buffer e =
    by_test (eqb l.lanes 0)
    (λ t. let none = eqb-true l.pointer.0 0 (every_nth (eqb l.capacity 0 ∷ eqb l.size 0 ∷ eqb l.pointer.0 0 ∷ is_plain l.view ∷ []) 2 (rw t at e)) in omega arith)
    (λ t. (open_numbers_lem l buffer (rw t at e)).reach)

region_within_lem : (l : Line) → l.pointer.0 ≤ most_pointer → (x : Phase) → region_ok l x ≡ true → region_within x ≡ true
region_within_lem l h x e =
    implies_from (is_busy x) (leb 1 (left_in x) && leb (region_end x) most_pointer)
    (λ t. let tests = leb 1 (left_in x) ∷ leb (region_end x) l.pointer.0 ∷ implies (is_writing x) (fits l.view l.capacity (place_in x) (left_in x)) ∷ [] in
    let ok = implies_use (is_busy x) (every tests) e t in
    let low = leb-true (region_end x) l.pointer.0 (every_nth tests 1 ok) in
    and_both (leb 1 (left_in x)) (leb (region_end x) most_pointer) (every_nth tests 0 ok) (le-leb (region_end x) most_pointer (omega arith)))

pub regions_within : (l : Line) → l.pointer.0 ≤ most_pointer → all_pass (on (region_ok l)) l.lane ≡ true → all_pass (on region_within) l.lane ≡ true
regions_within l h e = all_mono (on (region_ok l)) (on region_within) (λ y. region_within_lem l h y.phase) l.lane e

-- ---- the plain view
-- two blocks are equal as their derived equality tells it
abbrev pub same_block : Block → Block → Bool
same_block a b = eqb a.start b.start && eqb a.length b.length

unused_blocks : (bs : List Block) (n : ℕ) → length bs ≡ n → pointwise same_block bs (replicate n (block 0 0)) ≡ all_pass is_unused bs
unused_blocks [] zero h = refl
unused_blocks [] (suc n) h = absurd (omega arith)
unused_blocks (b ∷ bs) zero h = absurd (omega arith)
unused_blocks (b ∷ bs) (suc n) h = ap (λ t. is_unused b && t) (unused_blocks bs n (omega arith))

-- the equality of the blocks with those of the plain view is the test of them
pub plain_blocks : (bs : List Block) → length bs ≡ 8 → pointwise same_block bs (block 0 1 ∷ replicate 7 (block 0 0)) ≡ is_plain_blocks bs
plain_blocks [] h = absurd (omega arith)
plain_blocks (b ∷ bs) h = ap (λ t. eqb b.start 0 && eqb b.length 1 && t) (unused_blocks bs 7 (omega arith))

-- and that of the views the test of the view
pub plain_view_is : (v : View) → length v.block ≡ 8
    → (eqb v.displacement 0 && (eqb v.extent 1 && (eqb v.used 1 && pointwise same_block v.block (block 0 1 ∷ replicate 7 (block 0 0))))) ≡ is_plain v
plain_view_is v h = rw (plain_blocks v.block h, and-true (is_plain_blocks v.block))
