-- A line with more idle entries is sound exactly where it was sound without them.
use Prim.Native.Nat.{ℕ, ◌≤◌}
use mathlib.Core.Path.{◌≡◌, refl, ap}
use native.Mathlib.Omega.{arith}
use lib.ListN.{length, drop, replicate}
use lib.Seq.{drop-append-le}
use lib.Dec.{eqb}
use Rattle.line.specs.declared.Lane.{Lane}
use Rattle.line.specs.declared.Line.{Line}
use Rattle.line.specs.Line.{count_in, flag_for, has_turn, idle_lane, is_gathered, is_idle, is_idle_or_gathered, on, phase_at}
use Rattle.line.specs.Sound.{apart_lanes, busy_ok, flags_ok, gathered_ok, past_ok, region_ok, sound, turn_ok, value_ok}
use Rattle.line.proofs.Phases.{apart_idle}
use Rattle.idle_entries.specs.Widened.{HasEntries, widened}
use Rattle.lists.proofs.Tails.{all_tail, count_tail, get_d_tail, pairwise_tail, same_tail, some_tail, sum_tail}

module _ (more : ℕ) (l : Line) where
  pub phase_same : (i : ℕ) → phase_at (widened more l) i ≡ phase_at l i
  phase_same i = ap (λ (a : Lane). a.phase) (get_d_tail idle_lane more l.lane i)

  turn_same : turn_ok (widened more l) ≡ turn_ok l
  turn_same =
      rw (some_tail 0 more (eqb 1) refl l.flag, count_tail idle_lane more (on has_turn) refl l.lane, all_tail idle_lane more (on (value_ok l.pointer)) refl l.lane)

  gathered_same : gathered_ok (widened more l) ≡ gathered_ok l
  gathered_same =
      rw
      (some_tail idle_lane more (on is_gathered) refl l.lane, all_tail idle_lane more (on is_idle_or_gathered) refl l.lane, count_tail idle_lane more (on is_gathered) refl l.lane, sum_tail idle_lane more (on count_in) refl l.lane)

  busy_same : busy_ok (widened more l) ≡ busy_ok l
  busy_same = rw (all_tail idle_lane more (on (region_ok l)) refl l.lane, pairwise_tail idle_lane more apart_lanes (λ a. apart_idle a.phase) l.lane)

  module _ (E : HasEntries l) where
    flags_same : flags_ok (widened more l) ≡ flags_ok l
    flags_same = same_tail idle_lane more (on flag_for) refl l.flag l.lane E.flags

    past_same : past_ok (widened more l) ≡ past_ok l
    past_same =
        let enough : l.lanes ≤ length l.flag = omega (arith, E.enough, E.flags) in
        rw
        (drop-append-le l.lanes l.lane (replicate more idle_lane) E.enough, drop-append-le l.lanes l.flag (replicate more 0) enough, all_tail idle_lane more (on is_idle) refl (drop l.lanes l.lane), all_tail 0 more (eqb 0) refl (drop l.lanes l.flag))

    pub sound_same : (buffer : ℕ) → sound (widened more l) buffer ≡ sound l buffer
    unfolding sound
    sound_same buffer = rw (flags_same, turn_same, gathered_same, busy_same, past_same)
