-- A lane that was told to wait is woken within N − 1 accepted releases, and so within 127.
use Prim.Native.Nat.{ℕ, ◌-◌, ◌≤◌, ◌<◌}
use mathlib.Core.Path.{◌≡◌, refl, sym, ap, ◌∙◌}
use mathlib.Core.Bool.{true}
use mathlib.Core.List.{List, [], ◌∷◌, ◌++◌}
use native.Mathlib.Omega.{arith}
use Rattle.limits.specs.Limits.{most_lanes}
use Rattle.line.specs.Line.{phase_at}
use Rattle.line.specs.Line as phases
use Rattle.line.proofs.Phases.{waiting_up}
use Rattle.waitlist.specs.NextLane.{next_lane}
use Rattle.waitlist.proofs.Nearest.{distance_below_lanes}
use Rattle.steps.specs.State.{fresh}
use Rattle.trace.specs.Trace.{CallBytes, tells_to_wait}
use Rattle.demand3.specs.Claim.{entries_of, entry_after, lanes_after, off, releases, status, status_has_turn, wakes_of}
use Rattle.demand3.specs.Longest.{LongestWaits}
use Rattle.demand3.proofs.Status.{turn_is}
use Rattle.demand3.proofs.Turn.{turn_up, up_inside}
use Rattle.demand3.proofs.Theorem.{after_one, demand_three, good, here, lanes_here, stood, told_waits}

-- ---- the lanes of a wait are among the line's N, which are at most 128
module _ (book : List ℕ) (early : List CallBytes) where
  turn_inside : (h : ℕ) → status_has_turn (status h off (entries_of next_lane book early)) ≡ true → h < lanes_after next_lane book early
  turn_inside h t =
      let turn = sym (turn_is (phase_at (here book early).line h)) ∙ ap status_has_turn (sym (stood book early h)) ∙ t in
      rw (lanes_here book early) (up_inside (here book early).line (good book early).facts h (turn_up (phase_at (here book early).line h) turn))

  waits_inside : (i : ℕ) → phases.is_waiting (phase_at (here book early).line i) ≡ true → i < lanes_after next_lane book early
  waits_inside i w = rw (lanes_here book early) (up_inside (here book early).line (good book early).facts i (waiting_up (phase_at (here book early).line i) w))

  few_lanes : lanes_after next_lane book early ≤ most_lanes
  few_lanes = rw (lanes_here book early) (good book early).facts.base.lanes_fit

-- ---- the corollary
module _ (book : List ℕ) (early : List CallBytes) (told : CallBytes) (i : ℕ) (t : tells_to_wait i (entry_after next_lane book early told) ≡ true) where
  abbrev begun : List CallBytes
  begun = early ++ told ∷ []

  enough : (later : List CallBytes) → lanes_after next_lane book begun - 1 ≤ releases next_lane book begun later → 1 ≤ wakes_of next_lane book i begun later
  enough later r =
      let W = (demand_three book (begun ++ (later ++ []))).waits_end early later [] told i refl t in
      let waits : phases.is_waiting (phase_at (here book begun).line i) ≡ true = rw (after_one early told (fresh book)) (told_waits (here book early) (good book early) told i t) in
      let near = distance_below_lanes (lanes_after next_lane book begun) W.holder i (turn_inside book begun W.holder W.one.has) (waits_inside book begun i waits) in
      W.sent (omega arith)

pub longest_wait : LongestWaits
longest_wait =
    record {
      lanes_less_one = enough;
      at_most_127 = λ book early told i t later r. enough book early told i t later (omega (arith, few_lanes book (begun book early told i t)));
    }
