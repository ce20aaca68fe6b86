-- Read, decided and printed.
use Prim.Native.Nat.{ℕ}
use mathlib.Core.Path.{refl, sym, ◌∙◌}
use mathlib.Core.List.{List, [], ◌∷◌}
use native.Mathlib.Omega.{arith}
use Rattle.tiling.specs.declared.Tiling.{Tiling}
use Rattle.decode_fields.proofs.InOrder.{missed}
use Rattle.scopes.specs.declared.LaneCall.{LaneCall}
use Rattle.lane_calls.specs.Decided.{book_decided}
use Rattle.sheet_calls.specs.Calls.{table_decided}
use Rattle.sheet_calls.proofs.Active.{begins_counted, want_begins}
use Rattle.sheet_calls.proofs.Rans.{ran_with}
use Rattle.sheet_calls.proofs.turns.call_want.Goals as goal

pub returns-in_default : goal.returns-in_default
returns-in_default c = absurd (omega (arith, (missed (sym c.in_default.ensures)).ends, c.requires.1))

pub overflow_add-caller : goal.overflow_add-caller
overflow_add-caller c = omega (arith, c.requires.0.few)

pub returns : goal.returns
unfolding table_decided book_decided
returns c =
    let a = c.args in
    let begins = want_begins a.caller.seen a.flags.now a.caller.head.lane c.in-Some.purpose c.want-change.ensures in
    λ (t : Tiling) (records book : List ℕ). ran_with (LaneCall.Want c.in-Some.purpose) (c.in-Some.purpose ∷ []) c.call_with.ensures
    (λ accepted. c.with_active-counts.ensures ∙ begins_counted c.requires.0 begins accepted)
    (sym c.in-Some.ensures) refl c.want-change.ensures refl c.put_wanted-end.ensures
