-- Read, decided, stored and printed.
use Prim.Native.Nat.{ℕ}
use mathlib.Core.Path.{refl, sym, ap, ◌∙◌}
use mathlib.Core.List.{List, [], ◌∷◌}
use native.Mathlib.Omega.{arith}
use Rattle.view.specs.View.{place}
use Rattle.tiling.specs.Tiling.{table_position}
use Rattle.record_calls.specs.Records.{put_at}
use Rattle.record_calls.proofs.Regular.{put_at_storable}
use Rattle.decode_fields.proofs.InOrder.{and_then, got, got_said, missed}
use Rattle.scopes.specs.declared.LaneCall.{LaneCall}
use Rattle.lane_calls.specs.Decided.{book_decided}
use Rattle.sheet_calls.specs.Calls.{table_decided}
use Rattle.sheet_calls.proofs.Active.{acts_counted, acts_within, idle_refused}
use Rattle.sheet_calls.proofs.Rans.{ran_with}
use Rattle.sheet_calls.proofs.records.call_put.Goals as goal

pub returns-in_default : goal.returns-in_default
returns-in_default c = absurd (omega (arith, (missed (sym c.in_default.ensures)).ends, c.requires.room.0))

pub returns-in_default-read : goal.returns-in_default-read
returns-in_default-read c = absurd (omega (arith, (missed (sym c.in_default-read.ensures)).ends, (got (sym c.in-Some.ensures)).past, c.requires.room.0))

pub store-requires : goal.store-requires
store-requires c = rw c.put-change.ensures (put_at_storable c.args.caller.seen c.position-position.result _ c.requires.state.2)

pub put_written-end-requires : goal.put_written-end-requires
put_written-end-requires c = c.requires.room.1

pub call_active-requires : goal.call_active-requires
call_active-requires c = acts_within c.requires.state.0 (idle_refused c.args.caller.seen c.put-change.ensures (λ z. rw z))

pub returns : goal.returns
unfolding table_decided book_decided
returns c =
    let k = c.in-Some.place in
    let fields = and_then (got (sym c.in-Some.ensures)) (got (sym c.in-Some-read.ensures)) in
    λ (lane : ℕ) (flags : List ℕ). ran_with (LaneCall.Put (place k) c.in-Some-read.content) (k ∷ c.in-Some-read.content ∷ []) c.call_active.ensures
    (acts_counted c.requires.state.0 (idle_refused c.args.caller.seen c.put-change.ensures (λ z. rw z)))
    (sym (got_said fields)) refl (c.put-change.ensures ∙ ap (put_at c.args.caller.seen) (c.position-position.ensures.is ∙ ap (λ (n : ℕ). table_position c.args.table.tiling c.args.table.records.now (place n)) c.from.ensures)) c.store.ensures c.put_written-end.ensures
