-- The kinds that name a lane: they are 02 to 0A, one of nine, and of these 02 to 09 are calls of a lane.
use Prim.Native.Nat.{ℕ, zero, suc, ◌+◌, ◌≤◌, ◌<◌}
use mathlib.Core.Path.{◌≡◌, refl, ap}
use mathlib.Core.Bool.{true, false, false≢true}
use mathlib.Core.List.{List, ◌∷◌}
use native.Mathlib.Omega.{arith}
use lib.Dec.{leb}
use lib.ListN.{get_or, length, get_or-eq_default}
use borrow.Author.Tests.{le-leb, leb-false}
use Rattle.lists.proofs.Tests.{both, by_test}
use Rattle.event.specs.Kinds.{Kind, body_length, is_listed, kinds, no_kind}
use Rattle.event.specs.Event.{event_of, kind_of}
use Rattle.event.specs.declared.Event.{Event}
use Rattle.event.proofs.ByKind.{◌▹◌, by_kind, listed}
use Rattle.decode_fields.specs.Fields.{total}
use Rattle.scopes.specs.Scope.{lane_event, scope_of}
use Rattle.scopes.specs.declared.LaneCall.{LaneCall}
use Rattle.scopes.specs.declared.Scope.{Scope}
use Rattle.scopes.proofs.Scopes.{found_event}
use Rattle.call_head.specs.Head.{lane_kind, rest_of}

-- ---- by kind
past_none : (k : ℕ) → length kinds ≤ k → lane_kind (suc k) ≡ false
past_none k h = ap (λ (x : Kind). x.names_lane) (get_or-eq_default kinds no_kind h)

-- no kind past the table names a lane
pub lane_listed : (kind : ℕ) → lane_kind kind ≡ true → is_listed kind ≡ true
lane_listed zero t = t
lane_listed (suc k) t =
    let low : 1 ≤ suc k = omega arith in
    by_test (leb (suc k) (length kinds)) (λ s. rw (le-leb 1 (suc k) low) s) (λ s. both t (past_none k (omega (arith, leb-false (suc k) (length kinds) s))))

pub by_lane : (P : ℕ → Type 0) → P 2 → P 3 → P 4 → P 5 → P 6 → P 7 → P 8 → P 9 → P 10 → (kind : ℕ) → lane_kind kind ≡ true → P kind
by_lane P b c d e f g h i j kind t =
    by_kind (λ (k : ℕ). lane_kind k ≡ true → P k)
    ((λ z. absurd (false≢true z)) ▹ (λ z. b) ▹ (λ z. c) ▹ (λ z. d) ▹ (λ z. e) ▹ (λ z. f) ▹ (λ z. g) ▹ (λ z. h) ▹ (λ z. i) ▹ (λ z. j)
    ▹ (λ z. absurd (false≢true z)) ▹ (λ z. absurd (false≢true z)) ▹ listed)
    kind (lane_listed kind t) t

-- ---- they are 02 to 0A
pub from_two : (kind : ℕ) → lane_kind kind ≡ true → 2 ≤ kind
from_two kind t = by_lane (λ (k : ℕ). 2 ≤ k) (omega arith) (omega arith) (omega arith) (omega arith) (omega arith) (omega arith) (omega arith) (omega arith) (omega arith) kind t

pub to_ten : (kind : ℕ) → lane_kind kind ≡ true → kind ≤ 10
to_ten kind t = by_lane (λ (k : ℕ). k ≤ 10) (omega arith) (omega arith) (omega arith) (omega arith) (omega arith) (omega arith) (omega arith) (omega arith) (omega arith) kind t

pub is_lane : (kind : ℕ) → 2 ≤ kind → kind ≤ 10 → lane_kind kind ≡ true
is_lane kind low high =
    let first : 1 ≤ kind = omega arith in
    let last : kind ≤ length kinds = omega arith in
    by_kind (λ (k : ℕ). 2 ≤ k → k ≤ 10 → lane_kind k ≡ true)
    ((λ l h. absurd (omega arith)) ▹ (λ l h. refl) ▹ (λ l h. refl) ▹ (λ l h. refl) ▹ (λ l h. refl) ▹ (λ l h. refl) ▹ (λ l h. refl) ▹ (λ l h. refl) ▹ (λ l h. refl) ▹ (λ l h. refl)
    ▹ (λ l h. absurd (omega arith)) ▹ (λ l h. absurd (omega arith)) ▹ listed)
    kind (rw (le-leb 1 kind first, le-leb kind (length kinds) last)) low high

pub below_lane : (kind : ℕ) → kind < 2 → lane_kind kind ≡ false
below_lane kind h = by_test (lane_kind kind) (λ t. absurd (omega (arith, from_two kind t))) (λ f. f)

pub above_lane : (kind : ℕ) → 10 < kind → lane_kind kind ≡ false
above_lane kind h = by_test (lane_kind kind) (λ t. absurd (omega (arith, to_ten kind t))) (λ f. f)

-- the lane is one byte of the body
pub rest_body : (kind : ℕ) → lane_kind kind ≡ true → body_length kind ≡ 1 + total (rest_of kind)
rest_body kind t = by_lane (λ (k : ℕ). body_length k ≡ 1 + total (rest_of k)) refl refl refl refl refl refl refl refl refl kind t

-- no kind has more than 12 bytes past the lane
pub few_rest : (kind : ℕ) → lane_kind kind ≡ true → total (rest_of kind) ≤ 12
few_rest kind t = by_lane (λ (k : ℕ). total (rest_of k) ≤ 12) (omega arith) (omega arith) (omega arith) (omega arith) (omega arith) (omega arith) (omega arith) (omega arith) (omega arith) kind t

-- ---- the event of a kind
-- a call of a lane is of one of these kinds
kind_named : (lane : ℕ) (call : LaneCall) → lane_kind (kind_of (lane_event lane call)) ≡ true
kind_named lane (LaneCall.Want purpose) = refl
kind_named lane LaneCall.Receive = refl
kind_named lane (LaneCall.Take count) = refl
kind_named lane (LaneCall.Write content) = refl
kind_named lane LaneCall.Read = refl
kind_named lane (LaneCall.Put place content) = refl
kind_named lane (LaneCall.Look place) = refl
kind_named lane LaneCall.Free = refl

pub lane_call_kind : (e : Event) (lane : ℕ) (call : LaneCall) → scope_of e ≡ Scope.Lane lane call → lane_kind (kind_of e) ≡ true
lane_call_kind e lane call q = rw (found_event e (Scope.Lane lane call) q) (kind_named lane call)

-- and but for 0A an event of these kinds is a call of its lane, whatever the fields past it
pub call_of : (kind lane : ℕ) (rest : List ℕ) → lane_kind kind ≡ true → (kind ≡ 10 → ⊥) → (call : LaneCall) × (event_of kind (lane ∷ rest) ≡ lane_event lane call)
call_of kind lane rest t other =
    by_lane (λ (k : ℕ). kind ≡ k → (call : LaneCall) × (event_of k (lane ∷ rest) ≡ lane_event lane call))
    (λ z. (LaneCall.Want _, refl)) (λ z. (LaneCall.Receive, refl)) (λ z. (LaneCall.Take _, refl)) (λ z. (LaneCall.Write _, refl)) (λ z. (LaneCall.Read, refl))
    (λ z. (LaneCall.Put _ _, refl)) (λ z. (LaneCall.Look _, refl)) (λ z. (LaneCall.Free, refl)) (λ z. absurd (other z)) kind t refl

pub enter_of_lem : (lane : ℕ) (rest : List ℕ) → event_of 10 (lane ∷ rest) ≡ Event.Enter lane (get_or rest 0 0)
enter_of_lem lane rest = refl

-- ---- a match on the kind
-- the kinds with no field past the lane, by the last arm
pub none_left : (kind : ℕ) → lane_kind kind ≡ true → (kind ≡ 2 → ⊥) → (kind ≡ 4 → ⊥) → (kind ≡ 5 → ⊥) → (kind ≡ 7 → ⊥) → (kind ≡ 8 → ⊥) → (kind ≡ 10 → ⊥) → 0 ≡ total (rest_of kind)
none_left kind t two four five seven eight ten =
    by_lane (λ (k : ℕ). kind ≡ k → 0 ≡ total (rest_of k)) (λ z. absurd (two z)) (λ z. refl) (λ z. absurd (four z)) (λ z. absurd (five z)) (λ z. refl) (λ z. absurd (seven z)) (λ z. absurd (eight z)) (λ z. refl) (λ z. absurd (ten z)) kind t refl

-- 09, by the last arm where the other eight have their own
pub last_kind : (kind : ℕ) → lane_kind kind ≡ true → (kind ≡ 2 → ⊥) → (kind ≡ 3 → ⊥) → (kind ≡ 4 → ⊥) → (kind ≡ 5 → ⊥) → (kind ≡ 6 → ⊥) → (kind ≡ 7 → ⊥) → (kind ≡ 8 → ⊥) → (kind ≡ 10 → ⊥) → kind ≡ 9
last_kind kind t two three four five six seven eight ten =
    by_lane (λ (k : ℕ). kind ≡ k → k ≡ 9) (λ z. absurd (two z)) (λ z. absurd (three z)) (λ z. absurd (four z)) (λ z. absurd (five z)) (λ z. absurd (six z)) (λ z. absurd (seven z)) (λ z. absurd (eight z)) (λ z. refl) (λ z. absurd (ten z)) kind t refl

-- the room of a kind that is known
pub room_of : (kind k to len : ℕ) → kind ≡ k → to + total (rest_of kind) ≤ len → to + total (rest_of k) ≤ len
room_of kind k to len e h = rw e at h
