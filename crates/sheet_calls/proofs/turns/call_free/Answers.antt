-- Decided and printed.
use Prim.Native.Nat.{ℕ, ◌≤◌}
use mathlib.Core.Path.{refl}
use mathlib.Core.List.{List, []}
use lib.ListN.{length}
use Rattle.tiling.specs.declared.Tiling.{Tiling}
use Rattle.scopes.specs.declared.LaneCall.{LaneCall}
use Rattle.lane_calls.specs.Decided.{book_decided}
use Rattle.call_head.proofs.Heads.{nothing_there}
use Rattle.sheet_calls.specs.Calls.{table_decided}
use Rattle.sheet_calls.proofs.Active.{acts_counted, acts_within, idle_refused}
use Rattle.sheet_calls.proofs.Rans.{ran_with}
use Rattle.sheet_calls.proofs.turns.call_free.Goals as goal

pub call_active-requires : goal.call_active-requires
call_active-requires c = acts_within c.requires.0 (idle_refused c.args.caller.seen c.free-change.ensures (λ z. rw z))

pub returns : goal.returns
unfolding table_decided book_decided
returns c =
    λ (t : Tiling) (records book sheet : List ℕ) (inside : _ ≤ length sheet). ran_with LaneCall.Free [] c.call_active.ensures
    (acts_counted c.requires.0 (idle_refused c.args.caller.seen c.free-change.ensures (λ z. rw z)))
    (nothing_there sheet _ inside) refl c.free-change.ensures refl c.put_freed_line-end.ensures
