-- How the records of a block and of blocks move on by one, and what the order of blocks leaves room for; the loops that fill the table cite these.
use Prim.Native.Nat.{ℕ, zero, suc, ◌+◌, ◌-◌, ◌%◌, ◌≤◌, ◌<◌}
use mathlib.Core.Path.{◌≡◌, refl, ◌∙◌}
use mathlib.Core.Bool.{Bool, true}
use mathlib.Core.List.{List, [], ◌∷◌, ◌++◌}
use native.Mathlib.Nat.{sub-zero, zero-sub, mod-lt}
use native.Mathlib.Omega.{arith}
use lib.ListN.{length, drop, set, replicate, length-replicate}
use lib.Seq.{sets, sets-eq}
use lib.Dec.{leb}
use borrow.Author.Tests.{leb-true, le-leb}
use Rattle.limits.specs.Limits.{most_extent}
use Rattle.lists.specs.Lists.{all_pass}
use Rattle.lists.proofs.Tests.{and_left, and_right, and_both, every_nth}
use Rattle.lists.proofs.Parts.{drop_more}
use Rattle.lists.proofs.Sets.{sets_append, sets_more}
use Rattle.view.specs.declared.Block.{Block}
use Rattle.view.specs.View.{block, in_order}
use Rattle.view.proofs.Laws.{lengths}
use Rattle.view.proofs.Walk.{block_at}
use Rattle.tiling.specs.Tiling.{records_from, shown_records}
use Rattle.tiling.proofs.Laws.{length_from, length_shown}

-- ---- one block
from_more : (first i n : ℕ) → i < n → records_from (first + i) (n - i) ≡ (first + i) ∷ records_from (first + (i + 1)) (n - (i + 1))
unfolding records_from
from_more first i n h =
    let left : n - i ≡ suc (n - (i + 1)) = omega arith in
    let next : first + (i + 1) ≡ suc (first + i) = omega arith in
    rw (left, next)

-- a record stored, and those left after it
pub store_more : (l : List ℕ) (at first i n : ℕ) → i < n → sets (set l (at + i) (first + i)) (at + (i + 1)) (records_from (first + (i + 1)) (n - (i + 1))) ≡ sets l (at + i) (records_from (first + i) (n - i))
store_more l at first i n h = sets_more l at i (from_more first i n h)

pub store_end : (first i n : ℕ) → n ≤ i → records_from (first + i) (n - i) ≡ []
unfolding records_from
store_end first i n h = let none : n - i ≡ 0 = omega arith in rw none

-- ---- blocks
-- a block ends within a table
abbrev pub ends_in : Block → Bool
ends_in b = leb (b.start + b.length) most_extent

-- blocks in order end within the extent, and show no more records than lie before it
pub order_room : (extent end : ℕ) (bs : List Block) → extent ≤ most_extent → in_order extent end bs ≡ true → (end + lengths bs ≤ extent) × (all_pass ends_in bs ≡ true)
unfolding in_order
order_room extent end [] narrow h = let low = leb-true end extent h in (omega arith, refl)
order_room extent end (b ∷ bs) narrow h =
    let last = b.start + b.length in
    let tests = leb 1 b.length ∷ leb end b.start ∷ in_order extent last bs ∷ [] in
    let after = leb-true end b.start (every_nth tests 1 h) in
    let rest = order_room extent last bs narrow (every_nth tests 2 h) in
    (omega arith, and_both (ends_in b) (all_pass ends_in bs) (le-leb last most_extent (omega arith)) rest.1)

module _ (bs : List Block) (i : ℕ) (more : i < length bs) where
  next : drop i bs ≡ block_at bs i ∷ drop (i + 1) bs
  next = drop_more bs i (block 0 0) more

  pub lengths_next : lengths (drop i bs) ≡ (block_at bs i).length + lengths (drop (i + 1) bs)
  lengths_next = rw next

  -- a block's records stored, and those of the blocks left after it
  pub shown_more : (l : List ℕ) (at : ℕ) → sets (sets l at (records_from (block_at bs i).start (block_at bs i).length)) (at + (block_at bs i).length) (shown_records (drop (i + 1) bs)) ≡ sets l at (shown_records (drop i bs))
  unfolding shown_records
  shown_more l at =
      let b = block_at bs i in
      let both = sets_append (records_from b.start b.length) (shown_records (drop (i + 1) bs)) l at in
      rw next (rw (length_from b.start b.length) at both)

  pub ends_here : all_pass ends_in (drop i bs) ≡ true → (block_at bs i).start + (block_at bs i).length ≤ most_extent
  ends_here h = leb-true _ _ (and_left (ends_in (block_at bs i)) (all_pass ends_in (drop (i + 1) bs)) (rw next at h))

  pub ends_more : all_pass ends_in (drop i bs) ≡ true → all_pass ends_in (drop (i + 1) bs) ≡ true
  ends_more h = and_right (ends_in (block_at bs i)) (all_pass ends_in (drop (i + 1) bs)) (rw next at h)

-- ---- the table of zeros, and what is stored at its start
drop_zeros : (i n : ℕ) → ◌≡◌ {A = List ℕ} (drop i (replicate n 0)) (replicate (n - i) 0)
drop_zeros zero n = rw sub-zero
drop_zeros (suc i) zero = rw zero-sub
drop_zeros (suc i) (suc n) = let e : suc n - suc i ≡ n - i = omega arith in rw e (drop_zeros i n)

pub table_start : (bs : List Block) (n : ℕ) → lengths bs ≤ n → sets (replicate n 0) 0 (shown_records bs) ≡ shown_records bs ++ replicate (n - lengths bs) 0
table_start bs n h =
    let rs = shown_records bs in
    let len = length_shown bs in
    let zeros : List ℕ = replicate n 0 in
    let fit : 0 + length rs ≤ length zeros = rw (length-replicate {A = ℕ} n 0) (omega arith) in
    let e : 0 + length rs ≡ lengths bs = omega arith in
    sets-eq rs zeros 0 fit ∙ rw (e, drop_zeros)

-- a remainder is an index of the table
pub within_table : (number shown : ℕ) → 1 ≤ shown → shown ≤ most_extent → number % shown < most_extent
within_table number shown some held = let low = mod-lt number some in omega arith
