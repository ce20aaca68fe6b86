-- The counts of all lanes after a change of one.
use Rattle.std.specs.Prelude.{Option, Some, None}
use Prim.Native.Nat.{ℕ, ◌+◌, ◌-◌, ◌<◌}
use mathlib.Core.Path.{◌≡◌, refl, ap, ◌∙◌}
use mathlib.Core.List.{List}
use native.Mathlib.Omega.{arith}
use lib.ListN.{get_or, length, length-set, set}
use borrow.Author.Tests.{ltb-true}
use Rattle.lists.specs.Lists.{bit}
use Rattle.lists.proofs.Tests.{by_test}
use Rattle.limits.specs.Limits.{most_lanes}
use Rattle.view.specs.declared.Place.{Place}
use Rattle.line.specs.declared.Lane.{Lane}
use Rattle.line.specs.declared.Line.{Line}
use Rattle.line.specs.declared.Phase.{Phase}
use Rattle.line.specs.Line.{count_in, idle_lane, is_gathered, is_waiting, lane}
use Rattle.line.proofs.Phases.{numbered, numbered_is}
use Rattle.lane_tests.specs.Rules.{counts_of, not_idle}
use Rattle.lane_tests.proofs.Counts.{active_has, active_set, gathered_set, total_set}
use Rattle.steps.specs.Effects.{woken}
use Rattle.changes.specs.Change.{applied, counts_after, seen_of}
use Rattle.changes.specs.declared.Change.{Change}
use Rattle.changes.proofs.Steps.{Regular}

-- one lane has another phase, with as many records in an ordered call
module _ (ls : List Lane) (i : ℕ) (h : i < length ls) (y : Phase) where
  abbrev was : Phase
  was = (get_or ls i idle_lane).phase

  counts_set : is_gathered y ≡ is_gathered was → count_in y ≡ count_in was
      → counts_of (set ls i (lane y)) ≡ record { active = (counts_of ls).active + bit (not_idle y) - bit (not_idle was); gathered = (counts_of ls).gathered; total = (counts_of ls).total }
  counts_set same-gathered same_count =
      let active : (counts_of (set ls i (lane y))).active ≡ (counts_of ls).active + bit (not_idle y) - bit (not_idle was) = omega (arith, active_set ls i h y, active_has ls i h) in
      let gathered : (counts_of (set ls i (lane y))).gathered ≡ (counts_of ls).gathered = let e = rw same-gathered at (gathered_set ls i h y) in omega (arith, e) in
      let total : (counts_of (set ls i (lane y))).total ≡ (counts_of ls).total = let e = rw same_count at (total_set ls i h y) in omega (arith, e) in
      rw (active, gathered, total)

-- a wake changes no count
woken_idle : (v : Place) (x : Phase) → not_idle (woken v x) ≡ not_idle x
woken_idle v x = by_test (is_waiting x) (λ w. rw (numbered x 1 w)) (λ w. rw w)

woken_gathered : (v : Place) (x : Phase) → is_gathered (woken v x) ≡ is_gathered x
woken_gathered v x = by_test (is_waiting x) (λ w. rw (numbered x 1 w)) (λ w. rw w)

woken_count : (v : Place) (x : Phase) → count_in (woken v x) ≡ count_in x
woken_count v x = by_test (is_waiting x) (λ w. let none : count_in x ≡ 0 = ap count_in (numbered_is x 1 w) in rw (w, none)) (λ w. rw w)

counts_woken : (ls : List Lane) (i : ℕ) → i < length ls → (v : Place) → counts_of (set ls i (lane (woken v (get_or ls i idle_lane).phase))) ≡ counts_of ls
counts_woken ls i h v =
    let x = (get_or ls i idle_lane).phase in
    let same : (counts_of ls).active + bit (not_idle (woken v x)) - bit (not_idle x) ≡ (counts_of ls).active = rw (woken_idle v x) (omega arith) in
    counts_set ls i h (woken v x) (woken_gathered v x) (woken_count v x) ∙ rw same

-- a change of a lane's call
module _ (l : Line) (shaped : length l.lane ≡ most_lanes) (i : ℕ) (h : i < most_lanes) (c : Change) (r : Regular (seen_of l i) c) where
  own : counts_of (set l.lane i (lane c.phase)) ≡ counts_after (counts_of l.lane) (seen_of l i) c
  own = counts_set l.lane i (omega (arith, shaped)) c.phase r.gathered r.count

  by_wakes : (w : Option ℕ) → c.wakes ≡ w → counts_of (applied l i c).lane ≡ counts_after (counts_of l.lane) (seen_of l i) c
  by_wakes (Some j) e =
      let below : j < most_lanes = ltb-true j most_lanes (rw e at r.wakes) in
      rw e (counts_woken (set l.lane i (lane c.phase)) j (simp length-set (omega (arith, shaped, below))) c.pointer ∙ own)
  by_wakes None e = rw e own

  pub counts_kept : counts_of (applied l i c).lane ≡ counts_after (counts_of l.lane) (seen_of l i) c
  counts_kept = by_wakes c.wakes refl
