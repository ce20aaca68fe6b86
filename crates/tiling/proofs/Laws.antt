-- Laws of the table: its entries are the records that the view's blocks show, so the positions by it are the view's; a view that meets its rules can have one.
use Prim.Native.Nat.{ℕ, zero, suc, ◌+◌, ◌-◌, ◌*◌, ◌%◌, ◌≤◌, ◌<◌}
use mathlib.Core.Path.{◌≡◌, refl, ap, ◌∙◌}
use mathlib.Core.Logic.{⊎_elim}
use mathlib.Core.Bool.{true}
use mathlib.Core.List.{List, [], ◌∷◌, ◌++◌, append_assoc}
use native.Mathlib.Nat.{div-one, mod-one}
use native.Mathlib.Omega.{arith}
use lib.ListN.{length, get_or, replicate, length-append, get_or-append}
use lib.Seq.{get_or-append-add}
use lib.Dec.{leb}
use borrow.Author.Tests.{leb-true, lt-ltb, le-ltb}
use Rattle.limits.specs.Limits.{most_blocks, most_extent}
use Rattle.lists.specs.Lists.{all_pass}
use Rattle.lists.proofs.Tests.{every_nth}
use Rattle.lists.proofs.Parts.{below_or_not}
use Rattle.view.specs.declared.Block.{Block}
use Rattle.view.specs.declared.Place.{Place}
use Rattle.view.specs.declared.Position.{Position}
use Rattle.view.specs.declared.View.{View}
use Rattle.view.specs.View.{place, position, used_blocks, unused_blocks, is_unused, in_order, view_ok, shown, block_record, position_of, Positioned, fits}
use Rattle.view.proofs.Laws.{lengths, viewed}
use Rattle.tiling.specs.declared.Tiling.{Tiling}
use Rattle.tiling.specs.Tiling.{tiling_of, records_from, shown_records, records_of, Tileable, Shows, table_position, TablePositioned, table_fits}

-- ---- the records of a block, and of blocks
pub length_from : (first n : ℕ) → length (records_from first n) ≡ n
unfolding records_from
length_from first zero = refl
length_from first (suc n) = ap suc (length_from (suc first) n)

from_at : (first n q : ℕ) → q < n → get_or (records_from first n) q 0 ≡ first + q
unfolding records_from
from_at first zero q h = absurd (omega arith)
from_at first (suc n) zero h = omega arith
from_at first (suc n) (suc q) h = let less : q < n = omega arith in from_at (suc first) n q less ∙ omega arith

pub length_shown : (bs : List Block) → length (shown_records bs) ≡ lengths bs
unfolding shown_records
length_shown [] = refl
length_shown (b ∷ bs) = rw (length-append, length_from, length_shown bs)

zero_at : (n q : ℕ) → ◌≡◌ {A = ℕ} (get_or (replicate n 0) q 0) 0
zero_at zero q = refl
zero_at (suc n) zero = refl
zero_at (suc n) (suc q) = zero_at n q

-- each entry of a table is the record of the blocks with that number, and zero where there is none
pub table_at : (bs : List Block) (n q : ℕ) → get_or (shown_records bs ++ replicate n 0) q 0 ≡ block_record bs q
unfolding shown_records block_record
table_at [] n q = zero_at n q
table_at (b ∷ bs) n q =
    let own = records_from b.start b.length in
    let rest = shown_records bs ++ replicate n 0 in
    let len : length own ≡ b.length = length_from b.start b.length in
    rw append_assoc
    (⊎_elim
    (λ (t : q < b.length).
    let in-own : q < length own = omega arith in
    rw (lt-ltb q b.length t) (get_or-append own rest 0 q in-own ∙ from_at b.start b.length q t))
    (λ (t : b.length ≤ q).
    let e : length own + (q - b.length) ≡ q = omega arith in
    rw (le-ltb q b.length t) (rw e at (get_or-append-add own rest (q - b.length) 0) ∙ table_at bs n (q - b.length)))
    (below_or_not q b.length))

-- ---- positions by the table are the view's
pub table_position_lem : (v : View) (k : Place) → table_position (tiling_of v) (records_of v) k ≡ position_of v k
unfolding table_position records_of position_of
table_position_lem v k = rw (table_at (used_blocks v) (most_extent - shown v) (k.0 % shown v))

pub table_positioned : (v : View) (k : Place) (r : Position) → TablePositioned (tiling_of v) (records_of v) k r → Positioned v k r
table_positioned v k r h = record { is = h.is ∙ table_position_lem v k; below = h.below }

pub table_fits_lem : (v : View) (capacity : ℕ) (k : Place) (n : ℕ) → table_fits (tiling_of v) (records_of v) capacity k n ≡ fits v capacity k n
table_fits_lem v capacity k zero = refl
table_fits_lem v capacity k (suc n) = ap (λ (p : Position). leb (p.0 + 8) capacity) (table_position_lem v (place (k.0 + n)))

-- where a tile shows one record, a place is a tile
pub one_shown : (t : Tiling) (records : List ℕ) (k : ℕ) → t.shown ≡ 1 → position (t.displacement + 8 * (k * t.extent + get_or records 0 0)) ≡ table_position t records (place k)
unfolding table_position
one_shown t records k e = rw (e, div-one, mod-one)

-- a run of at least one record fits if its last record does
pub table_last : (t : Tiling) (records : List ℕ) (capacity : ℕ) (k : Place) (n : ℕ) → 0 < n → table_fits t records capacity k n ≡ leb ((table_position t records (place (k.0 + (n - 1)))).0 + 8) capacity
table_last t records capacity k zero h = absurd (omega arith)
table_last t records capacity k (suc n) h = let e : suc n - 1 ≡ n = omega arith in rw e

-- ---- a view that meets its rules
pub tileable : (capacity : ℕ) (v : View) → view_ok capacity v ≡ true → Tileable v
unfolding view_ok
tileable capacity v h =
    let tests =
    leb v.displacement capacity
    ∷ leb 1 v.extent
    ∷ leb v.extent most_extent
    ∷ leb 1 v.used
    ∷ leb v.used most_blocks
    ∷ in_order v.extent 0 (used_blocks v)
    ∷ all_pass is_unused (unused_blocks v)
    ∷ [] in
    record { order = every_nth tests 5 h; narrow = leb-true v.extent most_extent (every_nth tests 2 h); few = leb-true v.used most_blocks (every_nth tests 4 h) }

pub shows : (capacity : ℕ) (v : View) → view_ok capacity v ≡ true → length v.block ≡ 8 → Shows (tiling_of v)
shows capacity v h len = let facts = viewed capacity v h len in record { some = facts.some; held = omega (arith, facts.within, facts.narrow) }
