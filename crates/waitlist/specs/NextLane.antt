-- Document 01, "Next lane": the lane that a release wakes.
use Rattle.std.specs.Prelude.{Option, Some, None, ℕ, zero, suc, ◌+◌, ◌-◌, Bool, cond, List, [], ◌∷◌, get_or, eqb}

-- the lane is flagged
abbrev pub raised : List ℕ → ℕ → Bool
raised flags i = eqb (get_or flags i 0) 1

-- the first flagged lane of `count` lanes from lane i upwards
unfoldable pub first_raised : List ℕ → ℕ → ℕ → Option ℕ
first_raised flags i zero = None
first_raised flags i (suc count) = cond (raised flags i) (Some i) (first_raised flags (i + 1) count)

abbrev pub or_else : Option ℕ → Option ℕ → Option ℕ
or_else (Some i) b = Some i
or_else None b = b

-- "Next lane: the first flagged one after the releaser, upwards, then from 0"
unfoldable pub next_lane : ℕ → List ℕ → ℕ → Option ℕ
next_lane lanes flags releaser = or_else (first_raised flags (releaser + 1) (lanes - (releaser + 1))) (first_raised flags 0 lanes)

-- the values that a release prints of it: the lane, or none
abbrev pub wakes_values : Option ℕ → List ℕ
wakes_values (Some i) = i ∷ []
wakes_values None = []
