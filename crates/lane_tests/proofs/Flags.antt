-- How the test of the flags moves on by one lane.
use Prim.Native.Nat.{ℕ, ◌+◌, ◌≤◌, ◌<◌}
use mathlib.Core.Path.{◌≡◌, sym, ◌∙◌}
use mathlib.Core.Bool.{true, false}
use mathlib.Core.List.{List, map}
use native.Mathlib.Omega.{arith}
use lib.ListN.{drop, get_or, length, length-map, get_or-map}
use Rattle.lists.specs.Lists.{same_numbers}
use Rattle.lists.proofs.Loops.{same_end, same_more, same_stop}
use Rattle.limits.specs.Limits.{most_lanes}
use Rattle.line.specs.Line.{flag_for, idle_lane, on}
use Rattle.line.specs.declared.Lane.{Lane}

module _ (flags : List ℕ) (ls : List Lane) (i : ℕ) (flags_length : length flags ≡ most_lanes) (lanes_length : length ls ≡ most_lanes) where
  abbrev phase_flags : List ℕ
  phase_flags = map (on flag_for) ls

  as_long : length phase_flags ≡ most_lanes
  as_long = length-map ls (on flag_for) ∙ lanes_length

  flag_of : get_or phase_flags i 0 ≡ flag_for (get_or ls i idle_lane).phase
  flag_of = get_or-map (on flag_for) ls i idle_lane

  pub flags_end : most_lanes ≤ i → same_numbers (drop i flags) (drop i phase_flags) ≡ true
  flags_end h = same_end flags phase_flags i 0 0 (omega arith) (omega (arith, as_long))

  pub flags_stop : i < most_lanes → (get_or flags i 0 ≡ flag_for (get_or ls i idle_lane).phase → ⊥) → same_numbers (drop i flags) (drop i phase_flags) ≡ false
  flags_stop h ne = same_stop flags phase_flags i 0 0 (omega arith) (omega (arith, as_long)) (λ e. ne (e ∙ flag_of))

  pub flags_more : i < most_lanes → get_or flags i 0 ≡ flag_for (get_or ls i idle_lane).phase → same_numbers (drop i flags) (drop i phase_flags) ≡ same_numbers (drop (i + 1) flags) (drop (i + 1) phase_flags)
  flags_more h e = same_more flags phase_flags i 0 0 (omega arith) (omega (arith, as_long)) (e ∙ sym flag_of)
