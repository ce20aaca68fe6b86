-- The number of lanes changes by an opening alone.
use Rattle.std.specs.Prelude.{Option, Some, None}
use Prim.Native.Nat.{ℕ}
use mathlib.Core.Path.{◌≡◌, refl}
use Rattle.lists.proofs.Tests.{by_test}
use Rattle.line.specs.declared.Line.{Line}
use Rattle.line.specs.declared.Phase.{Phase}
use Rattle.line.specs.declared.Purpose.{Purpose}
use Rattle.event.specs.Event.{Call, given}
use Rattle.event.specs.declared.Event.{Event}
use Rattle.steps.specs.Effects.{Search, all_entered, entered, freed, next_of, others_down, taken, wake}
use Rattle.steps.specs.State.{Result, State}
use Rattle.steps.proofs.Cases.{Steps, enters, frees, looks, opens, puts, reads, receives, refuses, seeks, take_reads, take_writes, views, wants, writes}

pub wake_lanes : (l : Line) (w : Option ℕ) → (wake l w).lanes ≡ l.lanes
wake_lanes l (Some w) = refl
wake_lanes l None = refl

-- N after a call: as before it, or it was an opening of an unopened line
pub data LanesAfter (x : State) (c : Call) (r : Result) : Type 0 where
  stay : r.after.line.lanes ≡ x.line.lanes → LanesAfter x c r
  opening : (lanes capacity : ℕ) → c ≡ given (Event.Open lanes capacity) → x.line.lanes ≡ 0 → LanesAfter x c r

pub lanes_after : (search : Search) (x : State) (c : Call) {r : Result} → Steps search x c r → LanesAfter x c r
lanes_after search x c (refuses n) = stay refl
lanes_after search x c (opens lanes capacity z a b d i h) = opening lanes capacity refl z
lanes_after search x c (wants j p h q i m) = stay (by_test (others_down x.line j) (λ t. rw t) (λ t. rw t))
lanes_after search x c (receives j p v h q) = stay refl
lanes_after search x c (take_writes j n v h q i) = let t = taken x.line j n (Phase.Holding Purpose.SharedWrite v) in stay (wake_lanes t (next_of search t j))
lanes_after search x c (take_reads j n v h q i) = let t = taken x.line j n (Phase.Holding Purpose.SharedRead v) in stay (wake_lanes t (next_of search t j))
lanes_after search x c (writes j content n k h q) = stay refl
lanes_after search x c (reads j n k h q) = stay refl
lanes_after search x c (puts j k content v h q i) = stay refl
lanes_after search x c (looks j k v h q) = stay refl
lanes_after search x c (frees j v h q) = let t = freed x.line j in stay (wake_lanes t (next_of search t j))
lanes_after search x c (enters j n h q i o) = stay (by_test (all_entered x.line (entered x.line j n)) (λ t. rw t) (λ t. rw t))
lanes_after search x c (views displacement extent used blocks z o i) = stay refl
lanes_after search x c (seeks whence offset n z t m i) = stay refl
