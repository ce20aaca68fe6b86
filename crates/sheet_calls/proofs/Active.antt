-- What a call does to the number of lanes that are not idle: a want that is accepted makes it one more, and any other call of 02 to 09 that is accepted is of a lane that was not idle.
use Prim.Native.Nat.{ℕ, ◌+◌, ◌≤◌}
use mathlib.Core.Path.{◌≡◌, refl, ap, ◌∙◌}
use mathlib.Core.Bool.{Bool, true, false, cond, not}
use mathlib.Core.List.{List}
use native.Mathlib.Omega.{arith}
use lib.Dec.{eqb, ltb}
use lib.ListN.{set}
use Rattle.lists.specs.Lists.{all_pass}
use Rattle.lists.proofs.Tests.{at_test, by_test, clash, not_of}
use Rattle.limits.specs.Limits.{most_lanes}
use Rattle.line.specs.Line.{is_idle, phase_number}
use Rattle.line.proofs.Phases.{numbered}
use Rattle.lane_tests.specs.Rules.{not_idle}
use Rattle.lane_tests.specs.declared.tallies.LaneCounts.{LaneCounts}
use Rattle.changes.specs.Change.{Counted, counts_after, refused_change}
use Rattle.changes.specs.declared.Change.{Change}
use Rattle.changes.specs.declared.Seen.{Seen}
use Rattle.turn_calls.specs.Turns.{want_change}
use Rattle.sheet_calls.specs.Calls.{active_after, is_refusal, with_active}

-- where it is accepted, the lane was not idle
pub record Acts (s : Seen) (c : Change) : Type 0 where
  pub was : is_refusal c.answer ≡ false → not_idle s.phase ≡ true

-- where it is accepted, the lane was idle, and is not then
pub record Begins (s : Seen) (c : Change) : Type 0 where
  pub was : is_refusal c.answer ≡ false → not_idle s.phase ≡ false
  pub is : is_refusal c.answer ≡ false → not_idle c.phase ≡ true

-- ---- an idle lane is refused all calls but a want
pub idle_refused : (s : Seen) {c d : Change} → c ≡ d → (phase_number s.phase ≡ 0 → d ≡ refused_change s 13) → Acts s c
idle_refused s {c} {d} e f =
    record {
      was = λ accepted. by_test (is_idle s.phase) (λ z. let r = e ∙ f (numbered s.phase 0 z) in clash (rw r at accepted)) (λ some. not_of (is_idle s.phase) some);
    }

-- ---- and a lane that is not is refused a want
module _ (s : Seen) where
  refused_begins : (k : ℕ) (b : Bool) (c : Change) → (b ≡ false → Begins s c) → Begins s (cond b (refused_change s k) c)
  refused_begins k b c f = at_test (Begins s) b (refused_change s k) c (λ _. record { was = λ e. clash e; is = λ e. clash e }) f

  pub want_begins : {c : Change} (flags : List ℕ) (i purpose : ℕ) → c ≡ want_change s flags i purpose → Begins s c
  want_begins flags i purpose e =
      rw e
      (refused_begins 9 (ltb 2 purpose) _
      (λ _. refused_begins 12 s.gathering _
      (λ _. refused_begins 13 (not (is_idle s.phase)) _
      (λ idle. at_test (Begins s) (all_pass (eqb 0) (set flags i 0)) _ _ (λ _. record { was = λ _. idle; is = λ _. refl }) (λ _. record { was = λ _. idle; is = λ _. refl })))))

-- ---- so the counts after it are known by what the lane was
module _ {counts : LaneCounts} {s : Seen} {c : Change} (counted : Counted counts s.phase) where
  one_active : Acts s c → is_refusal c.answer ≡ false → 1 ≤ counts.active
  one_active acts accepted = rw (acts.was accepted) at counted.own

  pub acts_within : Acts s c → (is_refusal c.answer ≡ false → 1 ≤ counts.active) × (counts.active ≤ most_lanes)
  acts_within acts = (one_active acts, counted.few)

  pub acts_counted : Acts s c → is_refusal c.answer ≡ false → active_after counts c ≡ counts_after counts s c
  acts_counted acts accepted =
      let some = one_active acts accepted in
      rw (accepted, acts.was accepted) (ap (with_active counts) (omega arith))

  pub begins_counted : Begins s c → is_refusal c.answer ≡ false → with_active counts (counts.active + 1) ≡ counts_after counts s c
  begins_counted begins accepted = rw (begins.was accepted, begins.is accepted) (ap (with_active counts) (omega arith))
