-- What refuses a seek, then the place sought.
use Rattle.std.proofs.Common.{refl, sym, ap, ◌∙◌}
use mir.Facts.{to_z-of_z}
use Rattle.view.specs.declared.Place.{Place}
use Rattle.steps.specs.Effects.{place_at}
use Rattle.steps.specs.State.{with_pointer}
use Rattle.steps.specs.declared.Answer.{Answer}
use Rattle.setup_calls.specs.Setup.{target_of}
use Rattle.setup_calls.proofs.Calls.{meets_none, meets_reason, place_sought}
use Rattle.setup_calls.proofs.Steps.{seek_step_lem, target_is}
use Rattle.setup_calls.proofs.seek.Goals as goal

pub returns-in-Ok : goal.returns-in-Ok
returns-in-Ok c =
    let a = c.args in
    let told = rw (c.in-Ok.is, c.all_idle-idle.ensures, to_z-of_z c.ranges.offset) at c.seek_to.ensures in
    let place = place_sought (target_of a.line.size a.line.pointer a.line.view a.whence a.offset) c.in-Ok.pointer told.1 ∙ ap place_at (target_is a.line a.whence a.offset) in
    meets_none a.line a.book.now _ _ (seek_step_lem a.line a.book.now c.requires a.whence a.offset) (sym told.0)
    (record { answer = ap (λ (k : Place). Answer.Seek k) place; line = ap (λ (k : Place). with_pointer a.line k) place; book = refl })

pub returns-in-Err : goal.returns-in-Err
returns-in-Err c =
    let a = c.args in
    let told = rw (c.in-Err.is, c.all_idle-idle.ensures, to_z-of_z c.ranges.offset) at c.seek_to.ensures in
    meets_reason a.line a.book.now _ _ (seek_step_lem a.line a.book.now c.requires a.whence a.offset) c.in-Err.reason (sym told) c.refuse.ensures
