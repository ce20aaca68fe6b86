-- What a position needs of a view, as three numbers and a table of records. Tied to `position_of` and `fits` by tiling/Laws: table_position_lem, table_fits_lem.
use Rattle.std.specs.Prelude.{ℕ, zero, suc, ◌+◌, ◌-◌, ◌*◌, ◌/◌, ◌%◌, ◌≤◌, ◌<◌, ◌≡◌, Bool, true, List, [], ◌∷◌, ◌++◌, get_or, replicate, leb}
use Rattle.limits.specs.Limits.{most_blocks, most_extent}
use Rattle.view.specs.declared.Block.{Block}
use Rattle.view.specs.declared.Place.{Place}
use Rattle.view.specs.declared.Position.{Position}
use Rattle.view.specs.declared.View.{View}
use Rattle.view.specs.View.{place, position, used_blocks, in_order, shown}
use Rattle.tiling.specs.declared.Tiling.{Tiling}

abbrev pub tiling_of : View → Tiling
tiling_of v = record { displacement = v.displacement; extent = v.extent; shown = shown v }

-- a number of records, one after the other, from the first on
unfoldable pub records_from : ℕ → ℕ → List ℕ
records_from first zero = []
records_from first (suc n) = first ∷ records_from (suc first) n

-- the records of each block, in order
unfoldable pub shown_records : List Block → List ℕ
shown_records [] = []
shown_records (b ∷ bs) = records_from b.start b.length ++ shown_records bs

-- the table: the records that the view shows of a tile, then zeros up to the greatest extent
unfoldable pub records_of : View → List ℕ
records_of v = shown_records (used_blocks v) ++ replicate (most_extent - shown v) 0

-- what a view has whose records a table holds; a view that meets its rules has it
pub record Tileable (v : View) : Type 0 where
  pub order : in_order v.extent 0 (used_blocks v) ≡ true
  pub narrow : v.extent ≤ most_extent
  pub few : v.used ≤ most_blocks

-- a tile shows a record, and no more than a table holds
pub record Shows (t : Tiling) : Type 0 where
  pub some : 1 ≤ t.shown
  pub held : t.shown ≤ most_extent

-- "position = displacement + 8 × (tile × extent + record in tile)", with the record taken from a table
unfoldable pub table_position : Tiling → List ℕ → Place → Position
table_position t records k = position (t.displacement + 8 * (k.0 / t.shown * t.extent + get_or records (k.0 % t.shown) 0))

-- the position of a place that is a number of 33 bits, which is far below 2^64
pub record TablePositioned (t : Tiling) (records : List ℕ) (k : Place) (r : Position) : Type 0 where
  pub is : r ≡ table_position t records k
  pub below : r.0 < 9007199254740992

-- "A run of t records from a place fits if t is 0 or its last record ends at or below the capacity"
abbrev pub table_fits : Tiling → List ℕ → ℕ → Place → ℕ → Bool
table_fits t records capacity k zero = true
table_fits t records capacity k (suc n) = leb ((table_position t records (place (k.0 + n))).0 + 8) capacity
