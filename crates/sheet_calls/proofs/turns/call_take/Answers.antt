-- Read, decided and printed.
use Prim.Native.Nat.{ℕ}
use mathlib.Core.Path.{refl, sym, ap, ◌∙◌}
use mathlib.Core.Bool.{Bool}
use mathlib.Core.List.{List, [], ◌∷◌}
use native.Mathlib.Omega.{arith}
use Rattle.view.specs.declared.Place.{Place}
use Rattle.tiling.specs.Tiling.{table_fits}
use Rattle.turn_calls.specs.Turns.{taken_from}
use Rattle.decode_fields.proofs.InOrder.{missed}
use Rattle.scopes.specs.declared.LaneCall.{LaneCall}
use Rattle.lane_calls.specs.Decided.{book_decided}
use Rattle.sheet_calls.specs.Calls.{table_decided}
use Rattle.sheet_calls.proofs.Active.{acts_counted, acts_within, idle_refused}
use Rattle.sheet_calls.proofs.Rans.{ran_with}
use Rattle.sheet_calls.proofs.turns.call_take.Goals as goal

pub returns-in_default : goal.returns-in_default
returns-in_default c = absurd (omega (arith, (missed (sym c.in_default.ensures)).ends, c.requires.room.0))

pub call_active-requires : goal.call_active-requires
call_active-requires c = acts_within c.requires.state.0 (idle_refused c.args.caller.seen c.take-change.ensures (λ z. rw z))

pub returns : goal.returns
unfolding table_decided book_decided
returns c =
    let a = c.args in
    let s = a.caller.seen in
    let fits = c.fits-fitting.ensures ∙ ap (λ (n : ℕ). table_fits a.table.tiling a.table.records.now s.capacity c.place_in-place.result n) c.from.ensures
    ∙ ap (λ (k : Place). table_fits a.table.tiling a.table.records.now s.capacity k c.in-Some.count) c.place_in-place.ensures in
    λ (book : List ℕ). ran_with (LaneCall.Take c.in-Some.count) (c.in-Some.count ∷ []) c.call_active.ensures
    (acts_counted c.requires.state.0 (idle_refused s c.take-change.ensures (λ z. rw z)))
    (sym c.in-Some.ensures) refl
    (c.take-change.ensures ∙ ap (λ (b : Bool). taken_from s b a.flags.now a.caller.head.lane c.in-Some.count s.phase) fits) refl c.put_taken-end.ensures
