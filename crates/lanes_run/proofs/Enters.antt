-- An enter of a sheet in the line that a run keeps: its stores leave the line that the step leaves, and the counts of its lanes.
use Rattle.std.specs.Prelude.{Ok}
use Prim.Native.Nat.{ℕ, ◌+◌, ◌<◌}
use mathlib.Core.Path.{◌≡◌, ap, ◌∙◌}
use mathlib.Core.Bool.{true}
use mathlib.Core.List.{List}
use native.Mathlib.Omega.{arith}
use lib.Dec.{eqb, leb}
use lib.ListN.{length, set}
use lib.Seq.{set-get_or}
use Rattle.lists.proofs.Tests.{by_test}
use Rattle.limits.specs.Limits.{most_lanes}
use Rattle.tiling.specs.Tiling.{records_of, tiling_of}
use Rattle.tiling.proofs.Laws.{table_fits_lem}
use Rattle.line.specs.declared.Line.{Line}
use Rattle.line.specs.declared.Phase.{Phase}
use Rattle.line.specs.Line.{Shaped, lane, phase_at}
use Rattle.line.specs.Sound.{sound}
use Rattle.lane_tests.specs.Rules.{counts_of}
use Rattle.lane_tests.specs.declared.tallies.LaneCounts.{LaneCounts}
use Rattle.lane_tests.proofs.Counts.{active_set, gathered_set, total_set}
use Rattle.waitlist.specs.NextLane.{next_lane}
use Rattle.event.specs.declared.Event.{Event}
use Rattle.steps.specs.Effects.{started}
use Rattle.steps.specs.Meets.{state_of}
use Rattle.steps.specs.State.{leaves, with_lanes}
use Rattle.steps.specs.Step.{call_event, refuse}
use Rattle.steps.specs.declared.Answer.{Answer}
use Rattle.steps.proofs.Chains.{enter_chain}
use Rattle.changes.specs.Change.{entry_of, missing_lane, seen_of}
use Rattle.changes.specs.declared.Seen.{Seen}
use Rattle.changes.proofs.Steps.{entry_is}
use Rattle.ordered_calls.specs.Settled.{enter_of, is_accepted, total_with}
use Rattle.ordered_calls.specs.declared.Entered.{Entered}
use Rattle.ordered_calls.proofs.Steps.{enter_complete, enter_gathered, enter_idle, index_in, index_within}
use Rattle.sheet_calls.specs.Calls.{counts_entered, enter_change, gathered_change, table_entered}
use Rattle.lanes_run.proofs.Stores.{stored_line}

-- 4 and 8
pub enter_missing : (l : Line) (book : List ℕ) → sound l (length book) ≡ true → (i c : ℕ) → (missing_lane l.lanes i ≡ 0 → ⊥)
    → call_event (state_of l book) (Event.Enter i c) ≡ refuse (missing_lane l.lanes i) (state_of l book)
enter_missing l book ok i c some =
    enter_chain next_lane (state_of l book) i c
    ∙ rw ok
    (by_test (eqb l.lanes 0) (λ none. rw none)
    (λ opened. by_test (leb l.lanes i) (λ past. rw (opened, past)) (λ below. absurd (some (rw (opened, below))))))

module _ (l : Line) (book : List ℕ) (shaped : Shaped l) (ok : sound l (length book) ≡ true) (i : ℕ) (h : i < l.lanes) (c : ℕ)
    (s : Seen) (sees : s ≡ seen_of l (entry_of i)) (counts : LaneCounts) (same : counts ≡ counts_of l.lane) where
  below : i < most_lanes
  below = index_in l book shaped ok i h

  pub entered_is : table_entered s counts (tiling_of l.view) (records_of l.view) c ≡ enter_of l i c
  entered_is = rw (sees, same, ← entry_is i below, table_fits_lem l.view l.capacity l.pointer (total_with l c))

  abbrev call : Event
  call = Event.Enter i c

  module _ (e : enter_of l i c ≡ Ok Entered.Gathered) where
    idle : phase_at l i ≡ Phase.Idle
    idle = enter_idle l book shaped ok i h c (ap is_accepted e)

    pub gathered_called : (j : ℕ) → j ≡ entry_of i → call_event (state_of l book) call ≡ leaves Answer.Gathered (stored_line l j (gathered_change s c Answer.Gathered s.pointer)) book
    gathered_called j at = enter_gathered l book shaped ok i h c e ∙ rw (at, sees, ← entry_is i below, set-get_or l.flag i 0)

    pub gathered_counts : (j : ℕ) → j ≡ entry_of i → counts_entered counts c ≡ counts_of (set l.lane j (lane (Phase.Gathered c)))
    gathered_counts j at =
        let w = index_within l book shaped ok i h in
        let x = Phase.Gathered c in
        let a : (counts_of l.lane).active + 1 ≡ (counts_of (set l.lane i (lane x))).active = let q = rw idle at (active_set l.lane i w x) in omega (arith, q) in
        let g : (counts_of l.lane).gathered + 1 ≡ (counts_of (set l.lane i (lane x))).gathered = let q = rw idle at (gathered_set l.lane i w x) in omega (arith, q) in
        let t : (counts_of l.lane).total + c ≡ (counts_of (set l.lane i (lane x))).total = let q = rw idle at (total_set l.lane i w x) in omega (arith, q) in
        rw (same, at, ← entry_is i below, a, g, t)

  -- the line of a completed ordered call, from the one with the lane's own stores
  pub complete_called : enter_of l i c ≡ Ok Entered.Complete → (j : ℕ) → j ≡ entry_of i
      → call_event (state_of l book) call
      ≡ leaves (Answer.Ordered s.pointer (counts.total + c))
      (with_lanes (stored_line l j (enter_change s c (counts.total + c) (Ok Entered.Complete))) (started s.pointer.0 (stored_line l j (enter_change s c (counts.total + c) (Ok Entered.Complete))).lane)) book
  complete_called e j at = enter_complete l book shaped ok i h c e ∙ rw (at, sees, same, ← entry_is i below, set-get_or l.flag i 0)
