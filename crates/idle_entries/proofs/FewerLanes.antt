-- A version with fewer lanes gave the same answers, but where an 01 with more lanes got 6.
use Prim.Native.Nat.{ℕ, ◌+◌, ◌-◌, ◌≤◌}
use mathlib.Core.Path.{◌≡◌, refl, sym, ap, ◌∙◌}
use mathlib.Core.Bool.{Bool, true, false, and-true, not, ◌&&◌}
use mathlib.Core.List.{List, [], ◌∷◌}
use native.Mathlib.Omega.{arith}
use lib.ListN.{length, length-replicate, replicate-append-replicate}
use lib.Dec.{eqb, leb, ltb}
use borrow.Author.Tests.{eqb-true, le-leb, leb-false, leb-true, lt-ltb, not-true}
use Rattle.limits.specs.Limits.{least_capacity, most_capacity, most_lanes}
use Rattle.lists.proofs.Tests.{and_both, and_left, and_right, both, by_test}
use Rattle.line.specs.Line.{idle_lane}
use Rattle.line.specs.declared.Line.{Line}
use Rattle.line.specs.Sound.{numbers_ok, sound}
use Rattle.waitlist.specs.NextLane.{next_lane}
use Rattle.event.specs.Event.{Call, cut_short, given}
use Rattle.event.specs.declared.Event.{Event}
use Rattle.steps.specs.State.{State, fresh}
use Rattle.steps.specs.Effects.{open_step}
use Rattle.steps.specs.Refusals.{is, on_event}
use Rattle.steps.specs.Step.{after_by, call_event, calls_by, refuse, step, step_by}
use Rattle.steps.proofs.Cases.{steps}
use Rattle.steps.proofs.Chains.{open_chain, open_by}
use Rattle.idle_entries.specs.Widened.{HasEntries, SameStep, Wider, widened}
use Rattle.idle_entries.specs.FewerLanes.{KeepsAnswers, SameAnswers, open_within, refused_above, after_within, calls_within, fresh_within, got6, line_within, none_above, opens_above, step_within}
use Rattle.idle_entries.proofs.Steps.{entries_do_not_show}
use Rattle.steps.proofs.Lanes.{LanesAfter, lanes_after, opening, stay}
use Rattle.idle_entries.proofs.Lists.{same_trans, wider_self}

-- ---- the steps of that version, by kind
-- an event is an opening, or of another kind
by_open : (P : Event → Type 0) → ((lanes capacity : ℕ) → P (Event.Open lanes capacity)) → ((e : Event) → is 0x01 e ≡ false → P e) → (e : Event) → P e
by_open P f g (Event.Open lanes capacity) = f lanes capacity
by_open P f g (Event.Want i purpose) = g (Event.Want i purpose) refl
by_open P f g (Event.Receive i) = g (Event.Receive i) refl
by_open P f g (Event.Take i c) = g (Event.Take i c) refl
by_open P f g (Event.Write i content) = g (Event.Write i content) refl
by_open P f g (Event.Read i) = g (Event.Read i) refl
by_open P f g (Event.Put i k content) = g (Event.Put i k content) refl
by_open P f g (Event.Look i k) = g (Event.Look i k) refl
by_open P f g (Event.Free i) = g (Event.Free i) refl
by_open P f g (Event.Enter i c) = g (Event.Enter i c) refl
by_open P f g (Event.View displacement extent used blocks) = g (Event.View displacement extent used blocks) refl
by_open P f g (Event.Seek whence offset) = g (Event.Seek whence offset) refl
by_open P f g Event.Unlisted = g Event.Unlisted refl

-- the call is an 01
abbrev opens_any : Call → Bool
opens_any c = on_event (is 0x01) c

module _ (most : ℕ) (x : State) (fewer : x.line.lanes ≤ most) where
  -- any call but 01 is the same in both versions
  cut_same : step_within most x cut_short ≡ step x cut_short
  unfolding step_within step_by
  cut_same = rw (le-leb x.line.lanes most fewer, and-true (sound x.line (length x.book)))

  other_same : (e : Event) → is 0x01 e ≡ false → step_within most x (given e) ≡ call_event x e
  unfolding step_within step_by
  other_same e h = rw (le-leb x.line.lanes most fewer, and-true (sound x.line (length x.book)), h)

  -- 01 in that version
  opens_within : (lanes capacity : ℕ) → step_within most x (given (Event.Open lanes capacity)) ≡ open_by x lanes capacity most (open_within most x lanes capacity)
  unfolding step_within
  opens_within lanes capacity = rw (le-leb x.line.lanes most fewer, and-true (sound x.line (length x.book)))

-- with this version's number it is this version's step
sound_lanes : (l : Line) (buffer : ℕ) → sound l buffer ≡ true → leb l.lanes most_lanes ≡ true
unfolding sound
sound_lanes l buffer s = by_test (eqb l.lanes 0) (λ u. rw (eqb-true l.lanes 0 u)) (λ u. and_left _ _ (rw u at (and_left (numbers_ok l buffer) _ s)))

pub within_most_lanes : (x : State) (c : Call) → step_within most_lanes x c ≡ step x c
unfolding step_within step_by
within_most_lanes x c = by_test (sound x.line (length x.book)) (λ s. same (leb-true x.line.lanes most_lanes (sound_lanes x.line (length x.book) s)) c) (λ s. rw s)
  where
    same : x.line.lanes ≤ most_lanes → (c : Call) → step_within most_lanes x c ≡ step x c
    same h cut_short = cut_same most_lanes x h
    same h (given e) =
        by_open (λ (g : Event). step_within most_lanes x (given g) ≡ call_event x g)
        (λ lanes capacity. opens_within most_lanes x h lanes capacity ∙ sym (open_chain next_lane x lanes capacity)) (other_same most_lanes x h) e

-- ---- a version with at most `most` lanes
module _ (most : ℕ) (few : most ≤ most_lanes) where
  -- a line of `most` entries, and this version's with the same numbers
  wider_line : (lanes capacity : ℕ) → line_within most_lanes lanes capacity ≡ widened (most_lanes - most) (line_within most lanes capacity)
  wider_line lanes capacity =
      let n : most + (most_lanes - most) ≡ most_lanes = omega arith in
      rw (replicate-append-replicate most (most_lanes - most) idle_lane, replicate-append-replicate {A = ℕ} most (most_lanes - most) 0, n)

  wider_state : (lanes capacity : ℕ) (book : List ℕ) → lanes ≤ most
      → Wider (record { line = line_within most_lanes lanes capacity; book = book }) (record { line = line_within most lanes capacity; book = book })
  wider_state lanes capacity book h =
      record {
        more = most_lanes - most;
        line = wider_line lanes capacity;
        book = refl;
        entries = record { enough = omega (arith, h, length-replicate most idle_lane); flags = omega (arith, length-replicate most idle_lane, length-replicate {A = ℕ} most 0) };
      }

  -- an 01 of more lanes than that version takes is one of more lanes than this one takes, or it is named
  refused_both : (lanes : ℕ) → leb 1 lanes && leb lanes most ≡ false → ltb most lanes && leb lanes most_lanes ≡ false → leb 1 lanes && leb lanes most_lanes ≡ false
  refused_both lanes o f =
      by_test (leb 1 lanes)
      (λ t. let more : leb lanes most ≡ false = rw t at o in
      let n : leb lanes most_lanes ≡ false = rw (lt-ltb most lanes (leb-false lanes most more)) at f in rw (t, n))
      (λ t. rw t)

  accepted_both : (lanes : ℕ) → leb 1 lanes && leb lanes most ≡ true → (leb 1 lanes && leb lanes most_lanes ≡ true) × (lanes ≤ most)
  accepted_both lanes o =
      let h = leb-true lanes most (and_right (leb 1 lanes) (leb lanes most) o) in
      (and_both (leb 1 lanes) (leb lanes most_lanes) (and_left (leb 1 lanes) (leb lanes most) o) (le-leb lanes most_lanes (omega arith)), h)

  -- on one line: the two give the same, and N stays in that version's range
  pub record VersionsSame (x : State) (c : Call) : Type 0 where
    pub same : SameStep (step x c) (step_within most x c)
    pub fewer : (step_within most x c).after.line.lanes ≤ most

  module _ (x : State) (E : HasEntries x.line) (fewer : x.line.lanes ≤ most) where
    kept : (c : Call) → step_within most x c ≡ step x c → LanesAfter x c (step x c) → opens_any c ≡ false → VersionsSame x c
    kept c e (stay n) h = record { same = rw e (entries_do_not_show x x (wider_self x E) c); fewer = rw (e, n) fewer }
    kept c e (opening lanes capacity q z) h = both (ap opens_any q) h

    open_same : (lanes capacity : ℕ) → refused_above most x (given (Event.Open lanes capacity)) ≡ false → VersionsSame x (given (Event.Open lanes capacity))
    open_same lanes capacity free = record { same = rw (new, old) chains.0; fewer = rw old chains.1 }
      where
        new : call_event x (Event.Open lanes capacity) ≡ open_by x lanes capacity most_lanes (open_step x lanes capacity)
        new = open_chain next_lane x lanes capacity

        old : step_within most x (given (Event.Open lanes capacity)) ≡ open_by x lanes capacity most (open_within most x lanes capacity)
        old = opens_within most x fewer lanes capacity

        free_old : opens_above most (given (Event.Open lanes capacity)) && got6 (open_by x lanes capacity most (open_within most x lanes capacity)).answer ≡ false
        free_old = rw old at free

        refused : (k : ℕ) → SameStep (refuse k x) (refuse k x) × (x.line.lanes ≤ most)
        refused k = (record { answer = refl; after = wider_self x E }, fewer)

        and_one : (b : Bool) → b && true ≡ false → b ≡ false
        and_one b e = sym (and-true b) ∙ e

        chains :
            SameStep (open_by x lanes capacity most_lanes (open_step x lanes capacity)) (open_by x lanes capacity most (open_within most x lanes capacity))
            × ((open_by x lanes capacity most (open_within most x lanes capacity)).after.line.lanes ≤ most)
        chains =
            by_test (sound x.line (length x.book))
            (λ s. by_test (eqb x.line.lanes 0)
            (λ u. by_test (leb 1 lanes && leb lanes most)
            (λ o. let a = accepted_both lanes o in
            by_test (leb least_capacity capacity && leb capacity most_capacity && leb capacity (length x.book))
            (λ c. rw (s, u, o, a.0, c) (record { answer = refl; after = wider_state lanes capacity (open_step x lanes capacity).after.book a.1 }, a.1))
            (λ c. rw (s, u, o, a.0, c) (refused 7)))
            (λ o. let n = refused_both lanes o (and_one _ (rw (s, u, o) at free_old)) in rw (s, u, o, n) (refused 6)))
            (λ u. rw (s, u) (refused 5)))
            (λ s. rw s (refused 1))

    versions_same : (c : Call) → refused_above most x c ≡ false → VersionsSame x c
    versions_same cut_short f = kept cut_short (cut_same most x fewer) (lanes_after next_lane x cut_short (steps next_lane x cut_short)) refl
    versions_same (given e) f =
        by_open (λ (g : Event). refused_above most x (given g) ≡ false → VersionsSame x (given g)) open_same
        (λ g h f. kept (given g) (other_same most x fewer g h) (lanes_after next_lane x (given g) (steps next_lane x (given g))) h) e f

  -- on this version's line, and on that version's
  same_version : (y x : State) → Wider y x → (c : Call) → SameStep (step x c) (step_within most x c) → SameStep (step y c) (step_within most x c)
  same_version y x W c S = same_trans (step y c) (step x c) (step_within most x c) (entries_do_not_show y x W c) S

  -- a list of calls of which none is left out
  free_now : (c : Call) (cs : List Call) (x : State) → none_above most x (c ∷ cs) ≡ true → refused_above most x c ≡ false
  unfolding none_above
  free_now c cs x n = not-true (refused_above most x c) (and_left (not (refused_above most x c)) (none_above most (step_within most x c).after cs) n)

  free_later : (c : Call) (cs : List Call) (x : State) → none_above most x (c ∷ cs) ≡ true → none_above most (step_within most x c).after cs ≡ true
  unfolding none_above
  free_later c cs x n = and_right (not (refused_above most x c)) (none_above most (step_within most x c).after cs) n

  lists_same : (cs : List Call) (y x : State) → Wider y x → x.line.lanes ≤ most → none_above most x cs ≡ true → SameAnswers most y x cs
  unfolding calls_by calls_within after_by after_within
  lists_same [] y x W fewer n = record { answers = refl; after = W }
  lists_same (c ∷ cs) y x W fewer n =
      let now = versions_same x W.entries fewer c (free_now c cs x n) in
      let S = same_version y x W c now.same in
      let later = lists_same cs (step y c).after (step_within most x c).after S.after now.fewer (free_later c cs x n) in
      record { answers = rw (S.answer, later.answers); after = later.after }

-- "stored sheets keep .. their answers too unless an 01 with 65 to 128 lanes got 6 in them"
pub keeps_answers : KeepsAnswers
keeps_answers most few book cs n = lists_same most few cs (fresh book) (fresh_within most book) (wider_state most few 0 0 book (omega arith)) (omega arith) n
