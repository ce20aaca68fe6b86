-- Read, decided and printed.
use Prim.Native.Nat.{ℕ}
use mathlib.Core.Path.{refl, sym, ap, ◌∙◌}
use mathlib.Core.List.{List, [], ◌∷◌}
use native.Mathlib.Omega.{arith}
use Rattle.view.specs.View.{place}
use Rattle.view.specs.declared.Position.{Position}
use Rattle.tiling.specs.Tiling.{table_position}
use Rattle.record_calls.specs.Records.{look_at}
use Rattle.decode_fields.proofs.InOrder.{missed}
use Rattle.scopes.specs.declared.LaneCall.{LaneCall}
use Rattle.lane_calls.specs.Decided.{book_decided}
use Rattle.sheet_calls.specs.Calls.{table_decided}
use Rattle.sheet_calls.proofs.Active.{acts_counted, acts_within, idle_refused}
use Rattle.sheet_calls.proofs.Rans.{ran_with}
use Rattle.sheet_calls.proofs.records.call_look.Goals as goal

pub returns-in_default : goal.returns-in_default
returns-in_default c = absurd (omega (arith, (missed (sym c.in_default.ensures)).ends, c.requires.room.0))

pub call_active-requires : goal.call_active-requires
call_active-requires c = acts_within c.requires.state.0 (idle_refused c.args.caller.seen c.look-change.ensures (λ z. rw z))

pub returns : goal.returns
unfolding table_decided book_decided
returns c =
    let a = c.args in
    λ (lane : ℕ) (flags : List ℕ). ran_with (LaneCall.Look (place c.in-Some.place)) (c.in-Some.place ∷ []) c.call_active.ensures
    (acts_counted c.requires.state.0 (idle_refused c.args.caller.seen c.look-change.ensures (λ z. rw z)))
    (sym c.in-Some.ensures) refl
    (c.look-change.ensures ∙ ap (λ (p : Position). look_at a.caller.seen p a.book.now) (c.position-position.ensures.is ∙ ap (λ (n : ℕ). table_position a.table.tiling a.table.records.now (place n)) c.from.ensures)) refl c.put_read-end.ensures
