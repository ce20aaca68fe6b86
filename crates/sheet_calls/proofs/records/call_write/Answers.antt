-- Read, decided, stored and printed.
use Prim.Native.Nat.{ℕ}
use mathlib.Core.Path.{refl, sym, ap, ◌∙◌}
use mathlib.Core.List.{List, [], ◌∷◌}
use native.Mathlib.Omega.{arith}
use Rattle.view.specs.View.{place}
use Rattle.view.specs.declared.Place.{Place}
use Rattle.view.specs.declared.Position.{Position}
use Rattle.tiling.specs.Tiling.{table_position}
use Rattle.record_calls.specs.Records.{writable, written_by}
use Rattle.record_calls.proofs.Regular.{written_storable}
use Rattle.decode_fields.proofs.InOrder.{missed}
use Rattle.scopes.specs.declared.LaneCall.{LaneCall}
use Rattle.lane_calls.specs.Decided.{book_decided}
use Rattle.sheet_calls.specs.Calls.{table_decided}
use Rattle.sheet_calls.proofs.Active.{acts_counted, acts_within, idle_refused}
use Rattle.sheet_calls.proofs.Rans.{ran_with}
use Rattle.sheet_calls.proofs.records.call_write.Goals as goal

pub returns-in_default : goal.returns-in_default
returns-in_default c = absurd (omega (arith, (missed (sym c.in_default.ensures)).ends, c.requires.room.0))

pub write-change-requires : goal.write-change-requires
write-change-requires c =
    let there = c.position-position.ensures.is ∙ ap (λ (n : ℕ). table_position c.args.table.tiling c.args.table.records.now (place n)) (c.from.ensures ∙ ap (λ (p : Place). p.0) c.place_in.ensures) in
    (c.requires.state.2, ap (writable c.args.caller.seen) there ∙ c.requires.writer)

pub store-requires : goal.store-requires
store-requires c =
    let there = c.position-position.ensures.is ∙ ap (λ (n : ℕ). table_position c.args.table.tiling c.args.table.records.now (place n)) (c.from.ensures ∙ ap (λ (p : Place). p.0) c.place_in.ensures) in
    rw c.write-change.ensures (written_storable c.args.caller.seen c.position-position.result _ c.requires.state.3 (ap (writable c.args.caller.seen) there ∙ c.requires.writer))

pub put_written-end-requires : goal.put_written-end-requires
put_written-end-requires c = c.requires.room.1

pub call_active-requires : goal.call_active-requires
call_active-requires c = acts_within c.requires.state.0 (idle_refused c.args.caller.seen c.write-change.ensures (λ z. rw z))

pub returns : goal.returns
unfolding table_decided book_decided
returns c =
    let s = c.args.caller.seen in
    let there = c.position-position.ensures.is ∙ ap (λ (n : ℕ). table_position c.args.table.tiling c.args.table.records.now (place n)) (c.from.ensures ∙ ap (λ (p : Place). p.0) c.place_in.ensures) in
    λ (lane : ℕ) (flags : List ℕ). ran_with (LaneCall.Write c.in-Some.content) (c.in-Some.content ∷ []) c.call_active.ensures
    (acts_counted c.requires.state.0 (idle_refused s c.write-change.ensures (λ z. rw z)))
    (sym c.in-Some.ensures) refl
    (c.write-change.ensures ∙ ap (λ (q : Position). written_by s q s.phase) there) c.store.ensures c.put_written-end.ensures
