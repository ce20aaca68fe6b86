-- The tests of the lane, then what the counts decide.
use Rattle.std.proofs.Common.{◌<◌, sym, arith}
use Rattle.limits.specs.Limits.{most_lanes}
use Rattle.event.proofs.Reasons.{some_number}
use Rattle.changes.proofs.Steps.{lane_below}
use Rattle.refuse.proofs.First.{refused_with}
use Rattle.refuse.proofs.Shape.{shape_of}
use Rattle.ordered_calls.proofs.Steps.{index_in, past_idle}
use Rattle.ordered_calls.proofs.Calls.{enters, gathered_in, missing_refused, reach, total_in}
use Rattle.ordered_calls.proofs.enter.Goals as goal

pub returns-in-Some : goal.returns-in-Some
returns-in-Some c =
    let a = c.args in
    missing_refused a.line a.book.now c.requires a.lane a.count _ _ (some_number c.in-Some.reason) c.in-Some.ensures (refused_with a.line _ c.refuse.ensures)

pub overflow_add-total : goal.overflow_add-total
overflow_add-total c =
    let a = c.args in
    let below = lane_below a.line.lanes a.lane (sym c.in_default.ensures) in
    let low = total_in a.line a.book.now c.requires a.lane a.count (shape_of a.line c.well_formed.0) below c.counts_of-counts.result c.counts_of-counts.ensures in
    omega (arith, low, c.from.ensures)

pub overflow_add-last : goal.overflow_add-last
overflow_add-last c =
    let a = c.args in
    let below = lane_below a.line.lanes a.lane (sym c.in_default.ensures) in
    let few = gathered_in a.line a.book.now c.requires a.lane a.count (shape_of a.line c.well_formed.0) below c.counts_of-counts.result c.counts_of-counts.ensures in
    omega (arith, few)

pub bounds-line-i : goal.bounds-line-i
bounds-line-i c =
    let a = c.args in
    let below = lane_below a.line.lanes a.lane (sym c.in_default.ensures) in
    let entry : a.lane < most_lanes = index_in a.line a.book.now (shape_of a.line c.well_formed.0) c.requires a.lane below in
    omega (arith, c.from-i.ensures)

pub bounds-lanes-i : goal.bounds-lanes-i
bounds-lanes-i c =
    let a = c.args in
    let below = lane_below a.line.lanes a.lane (sym c.in_default.ensures) in
    let entry : a.lane < most_lanes = index_in a.line a.book.now (shape_of a.line c.well_formed.0) c.requires a.lane below in
    omega (arith, c.from-i.ensures)

pub settle-requires : goal.settle-requires
settle-requires c =
    let a = c.args in
    let shape = shape_of a.line c.well_formed.0 in
    let below = lane_below a.line.lanes a.lane (sym c.in_default.ensures) in
    let fit = rw c.from.ensures at c.fits-fitting.ensures in
    let asked = rw (c.from-i.ensures, c.from-2.ensures) at c.admit-came.ensures in (
      rw c.from.ensures
          (reach a.line a.book.now c.requires a.lane a.count shape below c.counts_of-counts.result c.counts_of-counts.ensures c.fits-fitting.result fit c.admit-came.result asked),
      rw c.from-i.ensures (past_idle a.line a.book.now shape c.requires a.lane below _),
    )

pub returns : goal.returns
returns c =
    let a = c.args in
    let below = lane_below a.line.lanes a.lane (sym c.in_default.ensures) in
    let fit = rw c.from.ensures at c.fits-fitting.ensures in
    let asked = rw (c.from-i.ensures, c.from-2.ensures) at c.admit-came.ensures in
    let done = rw (c.from-i.ensures, c.from.ensures) at c.settle.ensures in
    enters a.line a.book.now c.requires a.lane a.count (shape_of a.line c.well_formed.0) below c.counts_of-counts.result c.counts_of-counts.ensures
    c.fits-fitting.result fit c.admit-came.result asked _ done
