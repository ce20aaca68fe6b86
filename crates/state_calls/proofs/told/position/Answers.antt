-- `position` meets its contract: the test of the bytes, then the place in the view that they name.
use Rattle.std.proofs.Common.{Some, ap, arith, sym, ◌∙◌}
use Rattle.view.specs.View.{place, position_of}
use Rattle.view.specs.declared.Position.{Position}
use Rattle.view.specs.declared.View.{View}
use Rattle.state_bytes.proofs.Lengths.{state_long}
use Rattle.state_calls.proofs.told.position.Goals as goal

pub view_in-view-requires : goal.view_in-view-requires
view_in-view-requires c = omega (arith, state_long c.args.state.now (sym c.is_state.ensures ∙ c.if-not-is_state.false))

pub returns : goal.returns
returns c =
    let k = place c.args.place in
    rw (sym c.is_state.ensures ∙ c.if-not-is_state.false)
    (ap (λ (p : Position). Some p.0) c.position.ensures.is ∙ ap (λ (v : View). Some (position_of v k).0) c.view_in-view.ensures)
