-- Over a list of calls: a waiting lane's wake is sent in time, once, and until then every other lane is woken at most once.
use Prim.Native.Nat.{ℕ, ◌+◌, ◌≤◌, ◌<◌}
use mathlib.Core.Path.{◌≡◌, refl, sym, ap, ◌∙◌}
use mathlib.Core.Logic.{◌≢◌, ◌⊎◌, inl, inr}
use mathlib.Core.Bool.{true, false}
use mathlib.Core.List.{List, [], ◌∷◌}
use native.Mathlib.Omega.{arith}
use native.Mathlib.Decide.{dec_lt, ℕ_discrete}
use borrow.Author.Tests.{eq-eqb, ne_eqb}
use Rattle.lists.specs.Lists.{bit, count_pass}
use Rattle.lists.proofs.Tests.{both}
use Rattle.line.specs.declared.Line.{Line}
use Rattle.line.specs.Line.{has_turn, is_waiting, phase_at}
use Rattle.waitlist.specs.Distance.{distance}
use Rattle.waitlist.specs.NextLane.{next_lane}
use Rattle.waitlist.proofs.Nearest.{distance_round, distance_up}
use Rattle.steps.specs.State.{State}
use Rattle.steps.specs.Step.{step_by}
use Rattle.steps.proofs.Cases.{steps}
use Rattle.steps.proofs.Keeps.{GoodState, keeps}
use Rattle.trace.specs.Trace.{Entry, CallBytes, call_in, entries, entry, is_release, said_to, wakes, wants_by}
use Rattle.trace.proofs.Seen.{by_entry}
use Rattle.demand3.proofs.Turn.{Rests, Turn, no_release, wakes_waiter, nearer, rests, turn, turn_up, up_inside, waits_no_turn}

-- the state after one call, and what it is
abbrev pub then : State → CallBytes → State
then x g = (step_by next_lane x (call_in g)).after

abbrev pub entry_on : State → CallBytes → Entry
entry_on x g = entry g (said_to next_lane x g)

pub then_good : (x : State) (g : CallBytes) → GoodState x → GoodState (then x g)
then_good x g G = keeps G (steps next_lane x (call_in g))

pub turn_on : (x : State) (G : GoodState x) (i h : ℕ) → is_waiting (phase_at x.line i) ≡ true → has_turn (phase_at x.line h) ≡ true → (g : CallBytes)
    → Turn x i h (entry_on x g) (step_by next_lane x (call_in g))
turn_on x G i h wi th g = by_entry x g (Turn x i h) (λ d n. no_release refl (λ j. refl) refl wi th) (turn x G i h wi th)

rests_on : (x : State) (G : GoodState x) (i : ℕ) → is_waiting (phase_at x.line i) ≡ false → (g : CallBytes) → Rests i (entry_on x g) (step_by next_lane x (call_in g))
rests_on x G i wi g = by_entry x g (Rests i) (λ d n. record { unwoken = refl; unwaiting = inr wi }) (rests x G i wi)

pub distance_some : (n h i : ℕ) → h < n → i ≢ h → 0 < distance n h i
distance_some n h i p q =
    elim (dec_lt i h) [ yes k ↦ rw (distance_round n h i k) (omega arith) | no k ↦ rw (distance_up n h i (omega arith)) (omega arith) ]

-- the lane that waits is not the one with the turn
pub waiter_other : (l : Line) (i h : ℕ) → is_waiting (phase_at l i) ≡ true → has_turn (phase_at l h) ≡ true → i ≢ h
waiter_other l i h wi th z = both th (ap (λ (k : ℕ). has_turn (phase_at l k)) (sym z) ∙ waits_no_turn (phase_at l i) wi)

-- the wake is sent no later than at the release whose number is the distance
pub sent : (gs : List CallBytes) (x : State) (i h : ℕ) → GoodState x → is_waiting (phase_at x.line i) ≡ true → has_turn (phase_at x.line h) ≡ true
    → distance x.line.lanes h i ≤ count_pass is_release (entries next_lane x gs) → 1 ≤ count_pass (wakes i) (entries next_lane x gs)
unfolding entries
sent [] x i h G wi th d =
    let k = up_inside x.line G.facts h (turn_up (phase_at x.line h) th) in
    let p = distance_some x.line.lanes h i k (waiter_other x.line i h wi th) in absurd (omega arith)
sent (g ∷ gs) x i h G wi th d = go (turn_on x G i h wi th g) (λ j. sent gs (then x g) i j (then_good x g G))
  where
    go : Turn x i h (entry_on x g) (step_by next_lane x (call_in g))
        → ((j : ℕ) → is_waiting (phase_at (then x g).line i) ≡ true → has_turn (phase_at (then x g).line j) ≡ true
        → distance (then x g).line.lanes j i ≤ count_pass is_release (entries next_lane (then x g) gs) → 1 ≤ count_pass (wakes i) (entries next_lane (then x g) gs))
        → 1 ≤ bit (wakes i (entry_on x g)) + count_pass (wakes i) (entries next_lane (then x g) gs)
    go (no_release a b n w t) ih =
        let d' : distance x.line.lanes h i ≤ bit false + count_pass is_release (entries next_lane (then x g) gs) = rw a at d in
        let r = ih h w t (rw n (omega arith)) in omega arith
    go (wakes_waiter a b w) ih = rw b (omega arith)
    go (nearer j a b ne n w t near) ih =
        let d' : distance x.line.lanes h i ≤ bit true + count_pass is_release (entries next_lane (then x g) gs) = rw a at d in
        let r = ih j w t (rw n (omega arith)) in omega arith

-- until i is woken a lane is woken at most once, and only one that is nearer to i than the lane with the turn
pub fair : (gs : List CallBytes) (x : State) (i h j : ℕ) → GoodState x → is_waiting (phase_at x.line i) ≡ true → has_turn (phase_at x.line h) ≡ true
    → count_pass (wakes i) (entries next_lane x gs) ≡ 0
    → (count_pass (wakes j) (entries next_lane x gs) ≤ 1) × (distance x.line.lanes h i ≤ distance x.line.lanes j i → count_pass (wakes j) (entries next_lane x gs) ≡ 0)
unfolding entries
fair [] x i h j G wi th z = (omega arith, λ d. refl)
fair (g ∷ gs) x i h j G wi th z = go (turn_on x G i h wi th g) (λ k. fair gs (then x g) i k j (then_good x g G))
  where
    later : ℕ → ℕ
    later m = count_pass (wakes m) (entries next_lane (then x g) gs)

    go : Turn x i h (entry_on x g) (step_by next_lane x (call_in g))
        → ((k : ℕ) → is_waiting (phase_at (then x g).line i) ≡ true → has_turn (phase_at (then x g).line k) ≡ true → later i ≡ 0
        → (later j ≤ 1) × (distance (then x g).line.lanes k i ≤ distance (then x g).line.lanes j i → later j ≡ 0))
        → (bit (wakes j (entry_on x g)) + later j ≤ 1) × (distance x.line.lanes h i ≤ distance x.line.lanes j i → bit (wakes j (entry_on x g)) + later j ≡ 0)
    go (no_release a b n w t) ih =
        let r = ih h w t (omega arith) in rw (b j) (omega (arith, r.0), λ d. let q = r.1 (rw n d) in omega arith)
    go (wakes_waiter a b w) ih = let z' : bit true + later i ≡ 0 = rw b at z in absurd (omega arith)
    go (nearer k a b ne n w t near) ih =
        let r = ih k w t (omega arith) in
        elim (ℕ_discrete j k) [
          | yes y ↦ rw (b j, eq-eqb j k y)
              (let q = r.1 (rw (y, n) (omega arith)) in omega arith, λ d. absurd (let near' : distance x.line.lanes j i < distance x.line.lanes h i = rw (← y) at near in omega arith))
          | no y ↦ rw (b j, ne_eqb j k y) (omega (arith, r.0), λ d. let q = r.1 (rw n (omega arith)) in omega arith)
        ]

-- a lane that does not wait is not woken before its next accepted want
pub never : (gs : List CallBytes) (x : State) (i : ℕ) → GoodState x → is_waiting (phase_at x.line i) ≡ false → count_pass (wants_by i) (entries next_lane x gs) ≡ 0
    → count_pass (wakes i) (entries next_lane x gs) ≡ 0
unfolding entries
never [] x i G wi z = refl
never (g ∷ gs) x i G wi z = go (rests_on x G i wi g) (λ w. never gs (then x g) i (then_good x g G) w (omega arith))
  where
    go : Rests i (entry_on x g) (step_by next_lane x (call_in g)) → (is_waiting (phase_at (then x g).line i) ≡ false → count_pass (wakes i) (entries next_lane (then x g) gs) ≡ 0)
        → bit (wakes i (entry_on x g)) + count_pass (wakes i) (entries next_lane (then x g) gs) ≡ 0
    go q ih = rw q.unwoken (either q.unwaiting)
      where
        either : (wants_by i (entry_on x g) ≡ true) ⊎ (is_waiting (phase_at (then x g).line i) ≡ false) → bit false + count_pass (wakes i) (entries next_lane (then x g) gs) ≡ 0
        either (inl t) = let z' : bit true + count_pass (wants_by i) (entries next_lane (then x g) gs) ≡ 0 = rw t at z in absurd (omega arith)
        either (inr t) = let q = ih t in omega arith

-- a lane that waits is woken at most once before its next accepted want
pub single : (gs : List CallBytes) (x : State) (i h : ℕ) → GoodState x → is_waiting (phase_at x.line i) ≡ true → has_turn (phase_at x.line h) ≡ true
    → count_pass (wants_by i) (entries next_lane x gs) ≡ 0 → count_pass (wakes i) (entries next_lane x gs) ≤ 1
unfolding entries
single [] x i h G wi th z = omega arith
single (g ∷ gs) x i h G wi th z = go (turn_on x G i h wi th g) (λ k u v. single gs (then x g) i k (then_good x g G) u v (omega arith))
  where
    go : Turn x i h (entry_on x g) (step_by next_lane x (call_in g))
        → ((k : ℕ) → is_waiting (phase_at (then x g).line i) ≡ true → has_turn (phase_at (then x g).line k) ≡ true → count_pass (wakes i) (entries next_lane (then x g) gs) ≤ 1)
        → bit (wakes i (entry_on x g)) + count_pass (wakes i) (entries next_lane (then x g) gs) ≤ 1
    go (no_release a b n w t) ih = rw (b i) (let q = ih h w t in omega arith)
    go (wakes_waiter a b w) ih = let q = never gs (then x g) i (then_good x g G) w (omega arith) in rw b (omega arith)
    go (nearer k a b ne n w t near) ih = rw (b i, ne_eqb i k (λ z. ne (sym z))) (let q = ih k w t in omega arith)
