-- Read, decided and printed.
use Prim.Native.Nat.{ℕ, ◌+◌}
use mathlib.Core.Path.{◌≡◌, sym, ap, ap₂, ◌∙◌}
use mathlib.Core.Bool.{Bool}
use lib.Dec.{eqb}
use native.Mathlib.Omega.{arith}
use Rattle.decode_fields.proofs.InOrder.{missed}
use Rattle.tiling.specs.Tiling.{table_fits}
use Rattle.ordered_calls.specs.Settled.{admitted}
use Rattle.sheet_calls.specs.Calls.{enter_change, table_entered}
use Rattle.sheet_calls.proofs.enter.call_enter.Goals as goal

pub returns-in_default : goal.returns-in_default
returns-in_default c = absurd (omega (arith, (missed (sym c.in_default.ensures)).ends, c.requires.room.0))

pub enter_change-change-requires : goal.enter_change-change-requires
enter_change-change-requires c =
    let a = c.args in
    let s = a.caller.seen in
    let k = a.caller.counts in
    let fits = c.fits-fitting.ensures ∙ ap (λ (n : ℕ). table_fits a.table.tiling a.table.records.now s.capacity s.pointer (k.total + n)) c.from.ensures in
    let entered : c.admit-entered.result ≡ table_entered s k a.table.tiling a.table.records.now c.in-Some.count =
    c.admit-entered.ensures ∙ ap₂ (λ (b : Bool) (n : ℕ). admitted s.phase (eqb k.active k.gathered) b (eqb (k.gathered + 1) n)) fits c.from-2.ensures in
    rw (entered, c.from.ensures) (c.requires.state.4 c.in-Some.count)

pub put_entered-end-requires : goal.put_entered-end-requires
put_entered-end-requires c = c.requires.room.1

pub returns : goal.returns
returns c =
    let a = c.args in
    let s = a.caller.seen in
    let k = a.caller.counts in
    let fits = c.fits-fitting.ensures ∙ ap (λ (n : ℕ). table_fits a.table.tiling a.table.records.now s.capacity s.pointer (k.total + n)) c.from.ensures in
    let entered : c.admit-entered.result ≡ table_entered s k a.table.tiling a.table.records.now c.in-Some.count =
    c.admit-entered.ensures ∙ ap₂ (λ (b : Bool) (n : ℕ). admitted s.phase (eqb k.active k.gathered) b (eqb (k.gathered + 1) n)) fits c.from-2.ensures in
    let change : c.enter_change-change.result ≡ enter_change s c.in-Some.count (k.total + c.in-Some.count) c.admit-entered.result =
    c.enter_change-change.ensures ∙ ap (λ (n : ℕ). enter_change s c.in-Some.count (k.total + n) c.admit-entered.result) c.from.ensures in
    record {
      count = c.in-Some.count;
      fields = sym c.in-Some.ensures;
      is = rw (← entered, ← change, ← c.is_complete.ensures, ← c.is_refusal.ensures, c.from.ensures);
      text = c.put_entered-end.ensures;
    }
