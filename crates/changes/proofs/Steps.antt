-- How a step of document 01 is a change: the refusals, the tests of 4 and 8, and what every change of a lane's call keeps.
use Rattle.std.specs.Prelude.{Option, Some, None}
use Prim.Native.Nat.{ℕ, ◌≤◌, ◌<◌}
use mathlib.Core.Path.{◌≡◌, refl, sym, ap, ◌∙◌, subst}
use mathlib.Core.Bool.{Bool, true, false, cond}
use mathlib.Core.List.{List}
use native.Mathlib.Omega.{arith}
use lib.Dec.{eqb, leb}
use lib.ListN.{length}
use lib.Seq.{set-get_or}
use borrow.Author.Tests.{leb-false, lt-ltb}
use Rattle.lists.proofs.Tests.{at_test, by_test, clash}
use Rattle.line.specs.declared.Line.{Line}
use Rattle.line.specs.declared.Phase.{Phase}
use Rattle.limits.specs.Limits.{most_lanes}
use Rattle.line.specs.Line.{count_in, idle_lane, is_gathered, lane}
use Rattle.line.specs.Sound.{sound}
use Rattle.view.specs.declared.Place.{Place}
use Rattle.waitlist.specs.NextLane.{next_lane}
use Rattle.waitlist.proofs.Laws.{next_below}
use Rattle.steps.specs.declared.Answer.{Answer}
use Rattle.steps.specs.Effects.{reading, writing}
use Rattle.steps.specs.Meets.{state_of}
use Rattle.steps.specs.State.{Result}
use Rattle.steps.specs.Step.{refuse}
use Rattle.steps.proofs.Chains as chains
use Rattle.changes.specs.Change.{applied, lane_tested, changed, entry_of, kept_change, missing_lane, refused_change, seen_of, wakes_in}
use Rattle.changes.specs.declared.Change.{Change}
use Rattle.changes.specs.declared.Seen.{Seen}

-- ---- an answer that changes nothing
pub kept_same : (l : Line) (i : ℕ) (a : Answer) → applied l i (kept_change (seen_of l i) a) ≡ l
kept_same l i a = rw (set-get_or l.lane i idle_lane, set-get_or l.flag i 0)

-- what `refuse` gives for a reason with this number
pub refused_with : (s : Seen) (k : ℕ) {c : Change} → (j : ℕ) × (j ≡ k) × (c ≡ refused_change s j) → c ≡ refused_change s k
refused_with s k e = e.2 ∙ ap (λ (j : ℕ). refused_change s j) e.1

-- a result that is the change c of lane i; `left` is the book that an answer leaves
pub record Gives (l : Line) (left : Answer → List ℕ) (i : ℕ) (r : Result) (c : Change) : Type 0 where
  pub is : r ≡ changed l i c (left c.answer)

-- of a call that does not write
abbrev pub unchanged : List ℕ → Answer → List ℕ
unchanged book a = book

module _ (l : Line) (book : List ℕ) (left : Answer → List ℕ) (same : (k : ℕ) → left (Answer.Refused k) ≡ book) (i : ℕ) where
  pub refused_step : (k : ℕ) → Gives l left i (refuse k (state_of l book)) (refused_change (seen_of l i) k)
  refused_step k = record { is = rw (kept_same l i (Answer.Refused k), same k) }

  -- a test that refuses the call, and what is left past it
  pub guarded : (k : ℕ) (b : Bool) {c : Change} {r : Result} → Gives l left i r c → Gives l left i (cond b (refuse k (state_of l book)) r) (cond b (refused_change (seen_of l i) k) c)
  guarded k true e = refused_step k
  guarded k false e = e

  -- two changes by a test
  pub either : (b : Bool) {c d : Change} {r s : Result} → Gives l left i r c → Gives l left i s d → Gives l left i (cond b r s) (cond b c d)
  either true e f = e
  either false e f = f

-- ---- the tests of 4 and 8; the change is by the entry of the lane's number, which is the number itself past these tests
pub entry_is : (i : ℕ) → i < most_lanes → i ≡ entry_of i
entry_is i h = omega arith

module _ (l : Line) (book : List ℕ) (left : Answer → List ℕ) (same : (k : ℕ) → left (Answer.Refused k) ≡ book) (lanes_fit : l.lanes ≤ most_lanes) (ok : sound l (length book) ≡ true) where
  pub lane_step : (i : ℕ) (c : ℕ → Change) (rest : Result) → (i < l.lanes → Gives l left i rest (c i))
      → Gives l left (entry_of i) (chains.at_lane_lem (state_of l book) i rest) (lane_tested (seen_of l (entry_of i)) i (c (entry_of i)))
  lane_step i c rest accepted =
      rw ok
      (by_test (eqb l.lanes 0)
      (λ none. rw none (refused_step l book left same (entry_of i) 4))
      (λ some. by_test (leb l.lanes i)
      (λ past. rw (some, past) (refused_step l book left same (entry_of i) 8))
      (λ below. let h : i < l.lanes = leb-false l.lanes i below in
      rw (some, below) (subst (λ (j : ℕ). Gives l left j rest (c j)) (entry_is i (omega arith)) (accepted h)))))

-- the same tests by their number
module _ (s : Seen) (i : ℕ) (c : Change) where
  pub lane_missing : (missing_lane s.lanes i ≡ 0 → ⊥) → lane_tested s i c ≡ refused_change s (missing_lane s.lanes i)
  lane_missing some =
      by_test (eqb s.lanes 0) (λ none. rw none)
      (λ opened. by_test (leb s.lanes i) (λ past. rw (opened, past)) (λ below. absurd (some (rw (opened, below)))))

  pub lane_there : missing_lane s.lanes i ≡ 0 → lane_tested s i c ≡ c
  lane_there none =
      by_test (eqb s.lanes 0) (λ z. let four : 4 ≡ 0 = rw z at none in absurd (omega (arith, four)))
      (λ opened. by_test (leb s.lanes i) (λ past. let eight : 8 ≡ 0 = rw (opened, past) at none in absurd (omega (arith, eight))) (λ below. rw (opened, below)))

pub lane_below : (lanes i : ℕ) → missing_lane lanes i ≡ 0 → i < lanes
lane_below lanes i none =
    by_test (eqb lanes 0) (λ z. let four : 4 ≡ 0 = rw z at none in absurd (omega (arith, four)))
    (λ opened. by_test (leb lanes i) (λ past. let eight : 8 ≡ 0 = rw (opened, past) at none in absurd (omega (arith, eight))) (λ below. leb-false lanes i below))

-- ---- what every change keeps: the lane that is woken is one of the arrays, and the call's own lane is gathered after it, with as many records, where it was before
pub record Regular (s : Seen) (c : Change) : Type 0 where
  pub wakes : wakes_in c.wakes ≡ true
  pub gathered : is_gathered c.phase ≡ is_gathered s.phase
  pub count : count_in c.phase ≡ count_in s.phase

-- a lane that is not gathered has no records in an ordered call
uncounted : (x : Phase) → is_gathered x ≡ false → count_in x ≡ 0
uncounted Phase.Idle e = refl
uncounted (Phase.Waiting p) e = refl
uncounted (Phase.Woken p v) e = refl
uncounted (Phase.Holding p v) e = refl
uncounted (Phase.BusyWriting left next) e = refl
uncounted (Phase.BusyReading left next) e = refl
uncounted (Phase.Gathered n) e = clash e

module _ (s : Seen) where
  pub regular_kept : (a : Answer) → Regular s (kept_change s a)
  regular_kept a = record { wakes = refl; gathered = refl; count = refl }

  -- a change of a lane that is not gathered to a phase that is not
  pub regular_apart : {c : Change} → wakes_in c.wakes ≡ true → is_gathered c.phase ≡ false → false ≡ is_gathered s.phase → Regular s c
  regular_apart {c} wakes after before =
      record { wakes = wakes; gathered = after ∙ before; count = uncounted c.phase after ∙ sym (uncounted s.phase (sym before)) }

  pub regular_by : (b : Bool) {c d : Change} → (b ≡ true → Regular s c) → (b ≡ false → Regular s d) → Regular s (cond b c d)
  regular_by b {c} {d} f g = at_test (Regular s) b c d f g

  pub regular_refused : (k : ℕ) (b : Bool) {c : Change} → (b ≡ false → Regular s c) → Regular s (cond b (refused_change s k) c)
  regular_refused k b g = regular_by b (λ _. regular_kept (Answer.Refused k)) g

  pub regular_lane : (i : ℕ) {c : Change} → Regular s c → Regular s (lane_tested s i c)
  regular_lane i r = regular_refused 4 (eqb s.lanes 0) (λ _. regular_refused 8 (leb s.lanes i) (λ _. r))

-- a lane that writes or reads what it took is not gathered
pub writing_apart : (c : ℕ) (v : Place) → is_gathered (writing c v) ≡ false
writing_apart c v = by_test (eqb c 0) (λ e. rw e) (λ e. rw e)

pub reading_apart : (c : ℕ) (v : Place) → is_gathered (reading c v) ≡ false
reading_apart c v = by_test (eqb c 0) (λ e. rw e) (λ e. rw e)

-- the lane that a search finds is one of the arrays
found_in : (lanes : ℕ) (w : Option ℕ) → ((j : ℕ) → w ≡ Some j → j < lanes) → lanes ≤ most_lanes → wakes_in w ≡ true
found_in lanes (Some j) below lanes_fit = let h = below j refl in lt-ltb j most_lanes (omega arith)
found_in lanes None below lanes_fit = refl

pub next_in : (lanes : ℕ) (flags : List ℕ) (i : ℕ) → lanes ≤ most_lanes → wakes_in (next_lane lanes flags i) ≡ true
next_in lanes flags i lanes_fit = found_in lanes (next_lane lanes flags i) (λ j e. next_below lanes flags i j e) lanes_fit
