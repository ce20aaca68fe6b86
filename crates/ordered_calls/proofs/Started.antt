-- How the start of an ordered call moves on by one lane.
use Prim.Native.Nat.{ℕ, suc, ◌+◌, ◌<◌}
use mathlib.Core.Path.{◌≡◌, refl, sym, ap, ap₂, ◌∙◌}
use mathlib.Core.Bool.{true}
use mathlib.Core.List.{List, [], ◌∷◌, ◌++◌}
use native.Mathlib.Omega.{arith}
use native.Mathlib.Numerals.{add-one}
use lib.ListN.{get_or, set, length, take, drop, take-append-drop}
use lib.Seq.{drop-cons, take-suc-set, drop-set-lt, append_snoc}
use Rattle.lists.specs.Lists.{all_pass}
use Rattle.lists.proofs.Tests.{and_left, and_right}
use Rattle.line.specs.declared.Lane.{Lane}
use Rattle.line.specs.declared.Phase.{Phase}
use Rattle.line.specs.Line.{count_in, is_idle, lane, on}
use Rattle.line.proofs.Phases.{idle_is}
use Rattle.steps.specs.Effects.{started, started_at}

started_more : (l : List Lane) (r at : ℕ) (d : Lane) → r < length l
    → started at (drop r l) ≡ lane (started_at at (get_or l r d).phase) ∷ started (at + count_in (get_or l r d).phase) (drop (suc r) l)
unfolding started
started_more l r at d h = rw (drop-cons l r d h)

pub turn : (out : List Lane) (r at : ℕ) (d : Lane) → r < length out
    → take (r + 1) (set out r (lane (started_at at (get_or out r d).phase))) ++ started (at + count_in (get_or out r d).phase) (drop (r + 1) (set out r (lane (started_at at (get_or out r d).phase))))
    ≡ take r out ++ started at (drop r out)
turn out r at d h =
    let y = lane (started_at at (get_or out r d).phase) in
    let past : r < suc r = omega arith in
    rw (add-one, take-suc-set out r y h, drop-set-lt (suc r) out r y past, started_more out r at d h)
    (append_snoc (take r out) y (started (at + count_in (get_or out r d).phase) (drop (suc r) out)))

-- idle lanes stay idle
idle_started : (ls : List Lane) (at : ℕ) → all_pass (on is_idle) ls ≡ true → started at ls ≡ ls
unfolding started
idle_started [] at e = refl
idle_started (x ∷ xs) at e =
    let is : x.phase ≡ Phase.Idle = idle_is x.phase (and_left (is_idle x.phase) (all_pass (on is_idle) xs) e) in
    let own : lane (started_at at x.phase) ≡ x = ap (λ (y : Phase). lane (started_at at y)) is ∙ sym (ap lane is) in
    ap₂ (λ (y : Lane) (ys : List Lane). y ∷ ys) own (idle_started xs (at + count_in x.phase) (and_right (is_idle x.phase) (all_pass (on is_idle) xs) e))

pub all_done : (out : List Lane) (r at : ℕ) → all_pass (on is_idle) (drop r out) ≡ true → take r out ++ started at (drop r out) ≡ out
all_done out r at e = rw (idle_started (drop r out) at e) (take-append-drop r out)

-- what is past an index is not changed by a store before it
pub past_kept : (out : List Lane) (n r : ℕ) (y : Lane) → r < n → all_pass (on is_idle) (drop n out) ≡ true → all_pass (on is_idle) (drop n (set out r y)) ≡ true
past_kept out n r y h e = rw (drop-set-lt n out r y h) e
