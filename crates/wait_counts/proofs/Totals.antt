-- What is counted of a lane so far, what its wait under way comes to, and what it is told later, are together the same before and after a call.
use Rattle.std.specs.Prelude.{Some, None}
use Prim.Native.Nat.{ℕ, ◌+◌, ◌-◌, ◌*◌, ◌<◌, max}
use mathlib.Core.Path.{◌≡◌, refl, sym, ap, ◌∙◌}
use mathlib.Core.Logic.{◌≢◌}
use mathlib.Core.Bool.{Bool, true, false, ◌&&◌}
use mathlib.Core.List.{List, [], ◌∷◌}
use native.Mathlib.Omega.{arith}
use native.Mathlib.Nat.{zero-add}
use native.Mathlib.Decide.{ℕ_discrete}
use lib.ListN.{get_or}
use lib.Dec.{eqb}
use borrow.Author.Tests.{eq-eqb, ne_eqb}
use Rattle.limits.specs.Limits.{most_lanes}
use Rattle.lists.specs.Lists.{some_pass}
use Rattle.lists.proofs.Tests.{by_test}
use Rattle.waitlist.specs.NextLane.{wakes_values}
use Rattle.trace.specs.Trace.{Entry, is_release, tells_to_wait, wakes, woken_by}
use Rattle.changes.proofs.Steps.{entry_is}
use Rattle.report.specs.Growth.{ended_row, lane_waits, releases_to_wake, wait_row, waits_told}
use Rattle.report.specs.Rows.{empty_row, joined}
use Rattle.report.specs.declared.Row.{Row}
use Rattle.report.proofs.Rows.{empty_joined, row_eq}
use Rattle.wait_counts.specs.Counts.{Consistent, Sign, closed_row, counted_by, ended_after, mark_in, neither, one_release, releases, releases_at, releases_in, told, waits}
use Rattle.wait_counts.specs.Counting.{ended_in, lane_total, under_way}
use Rattle.wait_counts.proofs.Slots.{apart, ended_largest, ended_mark, ended_releases, ended_slot, ended_sum, ended_times, release_count, release_consistent, release_slot, told_mark, told_slot}

-- ---- what an entry shows of what its answer means
abbrev pub is_waits : Sign → Bool
is_waits waits = true
is_waits (releases w) = false
is_waits neither = false

abbrev pub releases_by : Sign → Bool
releases_by waits = false
releases_by (releases w) = true
releases_by neither = false

abbrev pub woken_in : Sign → List ℕ
woken_in waits = []
woken_in (releases w) = wakes_values w
woken_in neither = []

pub record Shows (e : Entry) (s : Sign) : Type 0 where
  pub tells : (i : ℕ) → tells_to_wait i e ≡ (is_waits s && eqb e.lane i)
  pub release : is_release e ≡ releases_by s
  pub woken : woken_by e ≡ woken_in s

-- a lane that is told to wait is not marked, and each lane is one that a line can have
abbrev pub Proper : List ℕ → ℕ → Sign → Type 0
Proper c i waits = (i < most_lanes) × (mark_in c i ≡ 0)
Proper c i (releases (Some w)) = w < most_lanes
Proper c i (releases None) = Unit {0}
Proper c i neither = Unit {0}

-- ---- at the start nothing is counted, and at the end nothing is left
pub total_end : (c : List ℕ) (i : ℕ) → lane_total c i [] ≡ closed_row c i
unfolding waits_told releases_to_wake
total_end c i = by_test (eqb (mark_in c i) 0) (λ t. rw t (row_eq (omega arith) (omega arith) (omega arith) (omega arith))) (λ t. rw t (row_eq (omega arith) (omega arith) (omega arith) (omega arith)))

-- ---- one call
module _ (c : List ℕ) (S : Consistent c) (i : ℕ) (h : i < most_lanes) (e : Entry) (later : List Entry) where
  -- what the entry does not do
  passes : is_release e ≡ false → wakes i e ≡ false → under_way (mark_in c i) (releases_in c) i (e ∷ later) ≡ under_way (mark_in c i) (releases_in c) i later
  unfolding releases_to_wake
  passes r w = rw (r, w, zero-add (releases_to_wake i later))

  untold : tells_to_wait i e ≡ false → lane_waits i (e ∷ later) ≡ lane_waits i later
  unfolding waits_told
  untold t = rw t (empty_joined (lane_waits i later))

  told_now : tells_to_wait i e ≡ true → lane_waits i (e ∷ later) ≡ joined (wait_row e.lane later) (lane_waits i later)
  unfolding waits_told
  told_now t = rw t

  -- a release that wakes another lane
  onward : is_release e ≡ true → wakes i e ≡ false → under_way (mark_in c i) (releases_in c) i (e ∷ later) ≡ under_way (mark_in c i) (releases_in c + 1) i later
  unfolding releases_to_wake
  onward r w =
      let m = S.mark i h in
      rw (r, w)
      (by_test (eqb (mark_in c i) 0) (λ t. rw t)
      (λ t. rw t (by_test (some_pass (wakes i) later) (λ u. rw u (ap ended_row (omega arith))) (λ u. rw u))))

-- a lane among those that a release wakes
woken_none : (e : Entry) (i : ℕ) → woken_by e ≡ [] → wakes i e ≡ false
woken_none e i q = rw q

woken_other : (e : Entry) (i w : ℕ) → woken_by e ≡ w ∷ [] → i ≢ w → wakes i e ≡ false
woken_other e i w q n = rw (q, ne_eqb i w n)

woken_own : (e : Entry) (i w : ℕ) → woken_by e ≡ w ∷ [] → i ≡ w → wakes i e ≡ true
woken_own e i w q n = rw (q, eq-eqb i w n)

-- the total by its three parts
total_is : {a b : Row} {p q : Row} {l m : Row} → a ≡ b → p ≡ q → l ≡ m → joined a (joined p l) ≡ joined b (joined q m)
total_is x y z = λ j. joined (x j) (joined (y j) (z j))

module _ (c : List ℕ) (S : Consistent c) (i : ℕ) (h : i < most_lanes) (e : Entry) (later : List Entry) where
  -- its lane is told to wait
  tells_total : Shows e waits → Proper c e.lane waits → lane_total c i (e ∷ later) ≡ lane_total (told c e.lane) i later
  tells_total W (b, z) = elim (ℕ_discrete e.lane i) [
    | yes q ↦ own q
    | no n ↦ other n
  ]
    where
      ended_same : ended_in c i ≡ ended_in (told c e.lane) i
      ended_same =
          row_eq (sym (told_slot c S e.lane b (4 * i + 1) (λ q. absurd (omega arith)))) (sym (told_slot c S e.lane b (4 * i + 2) (λ q. absurd (omega arith)))) (sym (told_slot c S e.lane b (4 * i + 3) (λ q. absurd (omega arith)))) refl

      releases_same : releases_in (told c e.lane) ≡ releases_in c
      releases_same = told_slot c S e.lane b releases_at (λ q. absurd (omega arith))

      quiet : under_way (mark_in c i) (releases_in c) i (e ∷ later) ≡ under_way (mark_in c i) (releases_in c) i later
      quiet = passes c S i h e later W.release (woken_none e i W.woken)

      other : e.lane ≢ i → lane_total c i (e ∷ later) ≡ lane_total (told c e.lane) i later
      other n =
          total_is ended_same
          (quiet ∙ rw (releases_same, told_slot c S e.lane b (4 * i) (λ q. n (omega arith))))
          (untold c S i h e later (W.tells i ∙ ne_eqb e.lane i n))

      -- the wait that is told begins
      begins : e.lane ≡ i → under_way (mark_in (told c e.lane) i) (releases_in (told c e.lane)) i later ≡ wait_row e.lane later
      begins q =
          let m : mark_in (told c e.lane) i ≡ releases_in c + 1 = rw (← q) (told_mark c S e.lane b) in
          let d : releases_in c + 1 - (releases_in c + 1) + releases_to_wake i later ≡ releases_to_wake i later = omega arith in
          rw (releases_same, m, ne_eqb (releases_in c + 1) 0 (λ x. absurd (omega arith)), d, q)

      none : e.lane ≡ i → under_way (mark_in c i) (releases_in c) i (e ∷ later) ≡ empty_row
      none q = let z' : mark_in c i ≡ 0 = rw (← q) z in rw z'

      own : e.lane ≡ i → lane_total c i (e ∷ later) ≡ lane_total (told c e.lane) i later
      own q = total_is ended_same (none q) (told_now c S i h e later (W.tells i ∙ eq-eqb e.lane i q)) ∙ ap (joined (ended_in (told c e.lane) i)) (empty_joined (joined (wait_row e.lane later) (lane_waits i later))) ∙ total_is refl (sym (begins q)) refl

  -- a release that wakes no lane, or another one
  onward_total : is_release e ≡ true → wakes i e ≡ false → tells_to_wait i e ≡ false → lane_total c i (e ∷ later) ≡ lane_total (one_release c) i later
  onward_total r w t = total_is released_same (onward c S i h e later r w ∙ rw (release_count c S, release_slot c S (4 * i) (omega arith))) (untold c S i h e later t)
    where
      released_same : ended_in c i ≡ ended_in (one_release c) i
      released_same = row_eq (sym (release_slot c S (4 * i + 1) (omega arith))) (sym (release_slot c S (4 * i + 2) (omega arith))) (sym (release_slot c S (4 * i + 3) (omega arith))) refl

-- the wait of another lane ends
other_total : (c : List ℕ) → Consistent c → (i w n : ℕ) → w < most_lanes → i < most_lanes → i ≢ w → (later : List Entry) → lane_total c i later ≡ lane_total (ended_after c w n) i later
other_total c S i w n b h m later =
    total_is
    (row_eq (sym (slot 1 (omega arith))) (sym (slot 2 (omega arith))) (sym (slot 3 (omega arith))) refl)
    (rw (ended_slot c S w n b (4 * i) (λ k d q. m (omega arith)), ended_releases c S w n b))
    refl
  where
    slot : (k : ℕ) → k < 4 → get_or (ended_after c w n) (4 * i + k) 0 ≡ get_or c (4 * i + k) 0
    slot k d = ended_slot c S w n b (4 * i + k) (apart w i k m d)

-- the wait of lane i ends with the release e
module _ (c : List ℕ) (S : Consistent c) (i : ℕ) (h : i < most_lanes) (e : Entry) (later : List Entry) (r : is_release e ≡ true) (w : wakes i e ≡ true) (u : tells_to_wait i e ≡ false) where
  abbrev c' : List ℕ
  c' = one_release c

  abbrev took : ℕ
  took = releases_in c' + 1 - mark_in c' i

  S' : Consistent c'
  S' = release_consistent c S

  mark_same : mark_in c' i ≡ mark_in c i
  mark_same = release_slot c S (4 * i) (omega arith)

  -- no wait of it is counted
  unmarked_total : eqb (mark_in c' i) 0 ≡ true → lane_total c i (e ∷ later) ≡ lane_total c' i later
  unmarked_total t =
      let z : eqb (mark_in c i) 0 ≡ true = rw mark_same at t in
      total_is
      (row_eq (sym (release_slot c S (4 * i + 1) (omega arith))) (sym (release_slot c S (4 * i + 2) (omega arith))) (sym (release_slot c S (4 * i + 3) (omega arith))) refl)
      (rw (z, t))
      (untold c S i h e later u)

  ends_now : eqb (mark_in c' i) 0 ≡ false → under_way (mark_in c i) (releases_in c) i (e ∷ later) ≡ ended_row took
  unfolding releases_to_wake
  ends_now t =
      let z : eqb (mark_in c i) 0 ≡ false = rw mark_same at t in
      let m = S.mark i h in
      rw (z, w, r, mark_same, release_count c S) (ap ended_row (omega arith))

  marked_total : eqb (mark_in c' i) 0 ≡ false → lane_total c i (e ∷ later) ≡ lane_total (ended_after c' i took) i later
  marked_total t =
      total_is refl (ends_now t) (untold c S i h e later u)
      ∙ moved
      ∙ total_is (sym grown) (sym none) refl
    where
      moved : joined (ended_in c i) (joined (ended_row took) (lane_waits i later)) ≡ joined (joined (ended_in c i) (ended_row took)) (joined empty_row (lane_waits i later))
      moved = row_eq (omega arith) (omega arith) (omega arith) (omega arith)

      grown : ended_in (ended_after c' i took) i ≡ joined (ended_in c i) (ended_row took)
      grown =
          row_eq
          (ended_times c' S' i took h ∙ ap (λ (n : ℕ). n + 1) (release_slot c S (4 * i + 1) (omega arith)))
          (ended_sum c' S' i took h ∙ ap (λ (n : ℕ). n + took) (release_slot c S (4 * i + 2) (omega arith)))
          (ended_largest c' S' i took h ∙ ap (λ (n : ℕ). max n took) (release_slot c S (4 * i + 3) (omega arith)))
          refl

      none : under_way (mark_in (ended_after c' i took) i) (releases_in (ended_after c' i took)) i later ≡ empty_row
      none = rw (ended_mark c' S' i took h)

-- ---- a call, by what its answer means
pub total_step : (c : List ℕ) → Consistent c → (i : ℕ) → i < most_lanes → (e : Entry) (later : List Entry) (s : Sign) → Shows e s → Proper c e.lane s
    → lane_total c i (e ∷ later) ≡ lane_total (counted_by c e.lane s) i later
total_step c S i h e later waits W P = tells_total c S i h e later W P
total_step c S i h e later neither W P = total_is refl (passes c S i h e later W.release (woken_none e i W.woken)) (untold c S i h e later (W.tells i))
total_step c S i h e later (releases None) W P = onward_total c S i h e later W.release (woken_none e i W.woken) (W.tells i)
total_step c S i h e later (releases (Some w)) W P =
    rw (← entry_is w P)
    (by_test (eqb (mark_in (one_release c) w) 0)
    (λ t. rw t (elim (ℕ_discrete i w) [
      | yes q ↦ unmarked_total c S i h e later W.release (woken_own e i w W.woken q) (W.tells i) (rw q t)
      | no n ↦ onward_total c S i h e later W.release (woken_other e i w W.woken n) (W.tells i)
    ]))
    (λ t. rw t (elim (ℕ_discrete i w) [
      | yes q ↦ rw (← q) (marked_total c S i h e later W.release (woken_own e i w W.woken q) (W.tells i) (rw q t))
      | no n ↦
          onward_total c S i h e later W.release (woken_other e i w W.woken n) (W.tells i)
          ∙ other_total (one_release c) (release_consistent c S) i w (releases_in (one_release c) + 1 - mark_in (one_release c) w) P h n later
    ])))
