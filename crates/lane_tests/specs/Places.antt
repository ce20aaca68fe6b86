-- Places as bits of words, 64 to a word: which places are marked, and the regions whose places are not. Tied to `sound` by the contract of soundness::is_sound.
use Rattle.std.specs.Prelude.{ℕ, zero, suc, ◌+◌, ◌-◌, ◌/◌, ◌%◌, ◌^◌, ◌≡◌, Bool, true, ◌&&◌, ◌||◌, List, get_or, length, eqb, leb}
use Rattle.lists.specs.Lists.{all_pass, implies, pairwise}
use Rattle.limits.specs.Limits.{most_pointer}
use Rattle.line.specs.Line.{is_busy, left_in, on, place_in}
use Rattle.line.specs.Sound.{apart_lanes, region_end}
use Rattle.line.specs.declared.Lane.{Lane}
use Rattle.line.specs.declared.Phase.{Phase}

-- a test passes for each of `count` numbers from `first` upwards
unfoldable pub all_from : (ℕ → Bool) → ℕ → ℕ → Bool
all_from test first zero = true
all_from test first (suc count) = test first && all_from test (first + 1) count

-- bit b of a word is 0
abbrev pub is_clear : ℕ → ℕ → Bool
is_clear word b = eqb (word / 2 ^ b % 2) 0

-- the word of which `count` bits from bit `low` upwards are 1, and no others
abbrev pub mask_of : ℕ → ℕ → ℕ
mask_of low count = 2 ^ (count + low) - 2 ^ low

-- place k is not marked: its bit is 0
abbrev pub is_free : List ℕ → ℕ → Bool
is_free words k = is_clear (get_or words (k / 64) 0) (k % 64)

-- place k is none of those from `start` up to, and not including, `end`
abbrev pub is_outside : ℕ → ℕ → ℕ → Bool
is_outside start end k = leb end k || leb (k + 1) start

-- places are marked: there are as many words; whether all of the places were free; and, where they were, which places are free then
pub record Marks (before after : List ℕ) (first count : ℕ) (free : Bool) : Type 0 where
  pub size : length after ≡ length before
  pub told : free ≡ all_from (is_free before) first count
  pub marked : free ≡ true → (k : ℕ) → is_free after k ≡ (is_free before k && is_outside first (first + count) k)

-- ---- regions
-- a busy lane has a record left, and its region ends at or below the last place that a pointer takes
abbrev pub region_within : Phase → Bool
region_within x = implies (is_busy x) (leb 1 (left_in x) && leb (region_end x) most_pointer)

-- no place of a lane's region is marked; a lane that is not busy has none
abbrev pub region_free : List ℕ → Phase → Bool
region_free words x = all_from (is_free words) (place_in x).0 (left_in x)

-- no place of the lanes' regions is marked, and they share none
abbrev pub regions_free : List ℕ → List Lane → Bool
regions_free words ls = all_pass (on (region_free words)) ls && pairwise apart_lanes ls
