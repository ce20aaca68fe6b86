-- The stores of a lane's call in the line that a run keeps: they leave the line that the step leaves, and the counts of its lanes.
use Rattle.std.specs.Prelude.{Some, None}
use Prim.Native.Nat.{ℕ, ◌+◌, ◌≤◌, ◌<◌}
use mathlib.Core.Path.{◌≡◌, refl, sym, ap, ◌∙◌}
use mathlib.Core.Bool.{Bool, true, false, not, ◌||◌}
use mathlib.Core.List.{List, [], ◌∷◌}
use lib.Dec.{eqb}
use native.Mathlib.Omega.{arith}
use lib.ListN.{get_or, length, length-set}
use borrow.Author.Tests.{ltb-true, ne_eqb, not-true}
use Rattle.lists.specs.Lists.{bit, some_pass}
use Rattle.limits.specs.Limits.{most_lanes}
use Rattle.tiling.specs.Tiling.{records_of, tiling_of}
use Rattle.line.specs.declared.Lane.{Lane}
use Rattle.line.specs.declared.Line.{Line}
use Rattle.line.specs.declared.Phase.{Phase}
use Rattle.line.specs.Line.{Shaped, idle_lane, is_gathered, on, phase_at}
use Rattle.line.specs.Sound.{sound}
use Rattle.lane_tests.specs.Rules.{counts_of}
use Rattle.lane_tests.specs.declared.tallies.LaneCounts.{LaneCounts}
use Rattle.waitlist.specs.NextLane.{next_lane}
use Rattle.event.specs.Event.{given}
use Rattle.steps.specs.Effects.{woken}
use Rattle.steps.specs.Meets.{state_of}
use Rattle.steps.specs.State.{Result, State, leaves, with_flag, with_phase, with_pointer, with_size}
use Rattle.steps.specs.Step.{call_event}
use Rattle.steps.proofs.CheckingOrder.{refused_keeps}
use Rattle.changes.specs.Change.{applied, changed, counts_after, entry_of, lane_tested, seen_of}
use Rattle.changes.specs.declared.Change.{Change}
use Rattle.changes.specs.declared.Seen.{Seen}
use Rattle.changes.proofs.Counts.{counts_kept}
use Rattle.changes.proofs.Steps.{Regular, entry_is}
use Rattle.scopes.specs.Scope.{lane_event}
use Rattle.scopes.specs.declared.LaneCall.{LaneCall}
use Rattle.lane_calls.specs.Decided.{book_decided, decided_change}
use Rattle.lane_calls.proofs.Steps.{decided_regular, decided_step}
use Rattle.sheet_calls.specs.Calls.{is_refusal, table_decided}
use Rattle.sheet_calls.proofs.Tables.{table_decided_lem}
use Rattle.lanes_run.specs.Parts.{seen_now}

-- whether a lane is gathered, by the count of those that are
some_counted : (ls : List Lane) → not (eqb (counts_of ls).gathered 0) ≡ some_pass (on is_gathered) ls
some_counted [] = refl
some_counted (x ∷ xs) = more (is_gathered x.phase) (counts_of xs).gathered (some_pass (on is_gathered) xs) (some_counted xs)
  where
    more : (b : Bool) (n : ℕ) (rest : Bool) → not (eqb n 0) ≡ rest → not (eqb (bit b + n) 0) ≡ b || rest
    more true n rest e = rw (ne_eqb (1 + n) 0 (λ z. omega (arith, z)))
    more false n rest e = let z : 0 + n ≡ n = omega arith in rw z e

-- what a run puts together for a lane's call is what the call sees of the line
pub sees_now : (l : Line) (i j : ℕ) (counts : LaneCounts) (s : Seen) → i ≡ j → counts ≡ counts_of l.lane
    → s ≡ seen_now l.lanes l.capacity l.size l.pointer counts (get_or l.lane i idle_lane) (get_or l.flag i 0) → s ≡ seen_of l j
sees_now l i j counts s at same is = is ∙ rw (at, same, some_counted l.lane)

-- the line with the lane's own stores
abbrev pub stored_line : Line → ℕ → Change → Line
stored_line l i c = with_size (with_pointer (with_phase (with_flag l i c.flag) i c.phase) c.pointer) c.size

-- the arrays keep their lengths
pub stored_shaped : (l : Line) (i : ℕ) (c : Change) → Shaped l → Shaped (stored_line l i c)
stored_shaped l i c s =
    record { lanes_length = simp length-set s.lanes_length; flags_length = simp length-set s.flags_length; blocks_length = s.blocks_length }

pub woken_shaped : (l : Line) (i : ℕ) (y : Phase) → Shaped l → Shaped (with_phase l i y)
woken_shaped l i y s = record { lanes_length = simp length-set s.lanes_length; flags_length = s.flags_length; blocks_length = s.blocks_length }

module _ (l : Line) (book : List ℕ) (shaped : Shaped l) (lanes_fit : l.lanes ≤ most_lanes) (ok : sound l (length book) ≡ true) (lane : ℕ) (call : LaneCall) (s : Seen) (sees : s ≡ seen_of l (entry_of lane))
    (c : Change) (book' : List ℕ) (change : c ≡ lane_tested s lane (table_decided s lane (tiling_of l.view) (records_of l.view) l.flag book call)) (puts : book' ≡ book_decided call book c.answer) where
  abbrev j : ℕ
  j = entry_of lane

  change_is : c ≡ decided_change (seen_of l j) lane l.view l.flag book call
  unfolding decided_change
  change_is = change ∙ rw (table_decided_lem s lane l.view l.flag book call, sees)

  regular : Regular (seen_of l j) c
  regular = rw change_is (decided_regular (seen_of l j) lanes_fit lane l.view l.flag book call)

  applies : call_event (state_of l book) (lane_event lane call) ≡ changed l j c book'
  applies = rw (puts, change_is) (decided_step l book lanes_fit ok call lane).is

  index_below : j < most_lanes
  index_below = omega arith

  -- a refused call leaves the line as it is
  pub refused_called : is_refusal c.answer ≡ true → call_event (state_of l book) (lane_event lane call) ≡ leaves c.answer l book'
  refused_called no_one =
      let answer : (call_event (state_of l book) (lane_event lane call)).answer ≡ c.answer = ap (λ (r : Result). r.answer) applies in
      let kept : (call_event (state_of l book) (lane_event lane call)).after ≡ state_of l book = refused_keeps next_lane (state_of l book) (given (lane_event lane call)) (rw answer (not-true _ no_one)) in
      let same : applied l j c ≡ l = ap (λ (y : State). y.line) (sym (ap (λ (r : Result). r.after) applies) ∙ kept) in
      applies ∙ ap (λ (m : Line). leaves c.answer m book') same

  -- no lane is woken
  pub none_called : (i : ℕ) → i ≡ j → c.wakes ≡ None → call_event (state_of l book) (lane_event lane call) ≡ leaves c.answer (stored_line l i c) book'
  none_called i at none = applies ∙ ap (λ (m : Line). leaves c.answer m book') (rw (none, at))

  pub none_counts : (i : ℕ) → i ≡ j → c.wakes ≡ None → counts_after (counts_of l.lane) s c ≡ counts_of (stored_line l i c).lane
  none_counts i at none = rw (sees, at) (sym (counts_kept l shaped.lanes_length j index_below c regular) ∙ rw none)

  -- a lane is woken
  module _ (i w v : ℕ) (y : Phase) (at : i ≡ j) (wakes : c.wakes ≡ Some w) (entry : v ≡ entry_of w) (phase : y ≡ woken c.pointer (phase_at (stored_line l i c) v)) where
    same_line : applied l j c ≡ with_phase (stored_line l i c) v y
    same_line = let below : w < most_lanes = ltb-true w most_lanes (rw wakes at regular.wakes) in rw (phase, wakes, at, entry, ← entry_is w below)

    pub woken_called : call_event (state_of l book) (lane_event lane call) ≡ leaves c.answer (with_phase (stored_line l i c) v y) book'
    woken_called = applies ∙ ap (λ (m : Line). leaves c.answer m book') same_line

    pub woken_counts : counts_after (counts_of l.lane) s c ≡ counts_of (with_phase (stored_line l i c) v y).lane
    woken_counts = rw sees (sym (counts_kept l shaped.lanes_length j index_below c regular) ∙ ap (λ (m : Line). counts_of m.lane) same_line)
