-- Wish 2, "The wait of a lane is then at most 127 releases": a corollary of demand 3, for every list of calls.
use Rattle.std.specs.Prelude.{ℕ, ◌-◌, ◌≤◌, ◌≡◌, true, List, [], ◌∷◌, ◌++◌}
use Rattle.waitlist.specs.NextLane.{next_lane}
use Rattle.trace.specs.Trace.{CallBytes, tells_to_wait}
use Rattle.demand3.specs.Claim.{entry_after, lanes_after, releases, wakes_of}

-- lane i was told to wait by the last of the calls `early`, and so many accepted releases are enough: once they follow, its wake was sent. It holds of
-- every list that follows, and so of the one that ends with the last of these releases
abbrev pub EnoughReleases : List ℕ → ℕ → List CallBytes → ℕ → Type 0
EnoughReleases book i early enough = (later : List CallBytes) → enough ≤ releases next_lane book early later → 1 ≤ wakes_of next_lane book i early later

-- .. whenever a lane i is told to wait, by the answer to the call `told`; how many, by the book and the calls up to that answer
abbrev pub AlwaysEnough : (List ℕ → List CallBytes → ℕ) → Type 0
AlwaysEnough enough =
    (book : List ℕ) (early : List CallBytes) (told : CallBytes) (i : ℕ) → tells_to_wait i (entry_after next_lane book early told) ≡ true
    → EnoughReleases book i (early ++ told ∷ []) (enough book (early ++ told ∷ []))

pub record LongestWaits : Type 0 where
  -- of a line with N lanes
  pub lanes_less_one : AlwaysEnough (λ (book : List ℕ) (calls : List CallBytes). lanes_after next_lane book calls - 1)
  -- of every line
  pub at_most_127 : AlwaysEnough (λ (book : List ℕ) (calls : List CallBytes). 127)
