-- What refuses an opening, then the zeroed bytes and the fresh line.
use Rattle.std.proofs.Common.{refl, sym}
use Rattle.setup_calls.proofs.Calls.{capacity_held, meets_none, meets_reason}
use Rattle.setup_calls.proofs.Steps.{open_step_lem}
use Rattle.setup_calls.proofs.open.Goals as goal

pub returns-in-Some : goal.returns-in-Some
returns-in-Some c =
    let a = c.args in
    meets_reason a.line a.book.now _ _ (open_step_lem a.line a.book.now c.requires a.lanes a.capacity) c.in-Some.reason c.in-Some.ensures c.refuse.ensures

pub zero_first-requires : goal.zero_first-requires
zero_first-requires c =
    let a = c.args in
    capacity_held a.line.lanes a.lanes a.capacity _ (sym c.in_default.ensures)

pub returns : goal.returns
returns c =
    let a = c.args in
    meets_none a.line a.book.now _ _ (open_step_lem a.line a.book.now c.requires a.lanes a.capacity) c.in_default.ensures
    (record { answer = refl; line = c.opened.ensures; book = c.zero_first.ensures })
