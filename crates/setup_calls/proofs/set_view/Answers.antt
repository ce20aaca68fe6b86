-- What refuses a view, then the view and the pointer.
use Rattle.std.proofs.Common.{refl}
use Rattle.setup_calls.proofs.Calls.{meets_none, meets_reason}
use Rattle.setup_calls.proofs.Steps.{view_step_lem}
use Rattle.setup_calls.proofs.set_view.Goals as goal

pub returns-in-Some : goal.returns-in-Some
returns-in-Some c =
    let a = c.args in
    let asked = rw (c.view_of-view.ensures, c.all_idle-idle.ensures) at c.in-Some.ensures in
    meets_reason a.line a.book.now _ _ (view_step_lem a.line a.book.now c.requires a.displacement a.extent a.used a.blocks) c.in-Some.reason asked c.refuse.ensures

pub returns : goal.returns
returns c =
    let a = c.args in
    let asked = rw (c.view_of-view.ensures, c.all_idle-idle.ensures) at c.in_default.ensures in
    meets_none a.line a.book.now _ _ (view_step_lem a.line a.book.now c.requires a.displacement a.extent a.used a.blocks) asked
    (rw c.view_of-view.ensures (record { answer = refl; line = refl; book = refl }))
