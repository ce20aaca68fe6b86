-- The changes of the calls of the waitlist keep what a change keeps: no lane is gathered by them, and the woken lane is one of the arrays.
use Prim.Native.Nat.{ℕ, ◌+◌, ◌≤◌}
use mathlib.Core.Path.{◌≡◌, refl}
use mathlib.Core.Bool.{true, false, not}
use mathlib.Core.List.{List}
use lib.Dec.{eqb, ltb}
use lib.ListN.{set}
use borrow.Author.Tests.{not-false}
use Rattle.lists.proofs.Tests.{and_left}
use Rattle.lists.specs.Lists.{all_pass}
use Rattle.view.specs.declared.Place.{Place}
use Rattle.view.specs.declared.View.{View}
use Rattle.line.specs.declared.Phase.{Phase}
use Rattle.line.specs.declared.Purpose.{Purpose}
use Rattle.limits.specs.Limits.{most_lanes, most_pointer}
use Rattle.line.specs.Line.{holds_whole, is_gathered, is_idle, is_holding, is_waiting, is_whole_book, is_woken, place_in, purpose_in}
use Rattle.line.proofs.Phases.{numbered}
use Rattle.steps.specs.declared.Answer.{Answer}
use Rattle.changes.specs.Change.{refused_change}
use Rattle.changes.specs.declared.Seen.{Seen}
use Rattle.changes.proofs.Steps.{Regular, next_in, reading_apart, regular_apart, regular_by, regular_kept, regular_refused, writing_apart}
use Rattle.turn_calls.specs.Turns.{free_change, receive_change, take_change, take_fits, taken_by, want_change}

-- a lane that is idle, or holds the whole book, is not gathered
idle_apart : (x : Phase) → is_idle x ≡ true → false ≡ is_gathered x
idle_apart x e = rw (numbered x 0 e)

whole_apart : (x : Phase) → holds_whole x ≡ true → false ≡ is_gathered x
whole_apart x e = rw (numbered x 3 (and_left (is_holding x) (is_whole_book (purpose_in x)) e))

module _ (s : Seen) (lanes_fit : s.lanes ≤ most_lanes) (i : ℕ) where
  refused_13 : Regular s (refused_change s 13)
  refused_13 = regular_kept s (Answer.Refused 13)

  pub want_regular : (flags : List ℕ) (purpose : ℕ) → Regular s (want_change s flags i purpose)
  want_regular flags purpose =
      regular_refused s 9 (ltb 2 purpose)
      (λ _. regular_refused s 12 s.gathering
      (λ _. regular_refused s 13 (not (is_idle s.phase))
      (λ e. let apart = idle_apart s.phase (not-false _ e) in
      regular_by s (all_pass (eqb 0) (set flags i 0)) (λ _. regular_apart s refl refl apart) (λ _. regular_apart s refl refl apart))))

  pub receive_regular : Regular s (receive_change s)
  receive_regular =
      regular_by s (is_woken s.phase) (λ w. regular_apart s refl refl (rw (numbered s.phase 2 w)))
      (λ _. regular_by s (is_waiting s.phase) (λ _. regular_kept s (Answer.Refused 14)) (λ _. refused_13))

  module _ (view : View) (flags : List ℕ) (c : ℕ) where
    take_held : (q : Purpose) (v : Place) → false ≡ is_gathered s.phase → Regular s (taken_by s (take_fits view s c) flags i q v c)
    take_held Purpose.SharedWrite v e =
        regular_refused s 16 (not (take_fits view s c))
        (λ _. regular_apart s (next_in s.lanes (set flags i 0) i lanes_fit) (writing_apart c v) e)
    take_held Purpose.SharedRead v e =
        regular_refused s 15 (ltb most_pointer (v.0 + c))
        (λ _. regular_apart s (next_in s.lanes (set flags i 0) i lanes_fit) (reading_apart c v) e)
    take_held Purpose.WholeBook v e = refused_13

    pub take_regular : Regular s (take_change s view flags i c)
    take_regular =
        regular_by s (is_holding s.phase) (λ h. take_held (purpose_in s.phase) (place_in s.phase) (rw (numbered s.phase 3 h))) (λ _. refused_13)

  pub free_regular : (flags : List ℕ) → Regular s (free_change s flags i)
  free_regular flags =
      regular_refused s 13 (not (holds_whole s.phase))
      (λ e. regular_apart s (next_in s.lanes (set flags i 0) i lanes_fit) refl (whole_apart s.phase (not-false _ e)))
