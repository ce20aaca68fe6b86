-- The change that is decided, applied, is the step.
use Rattle.std.proofs.Common.{length, ap, ◌∙◌}
use Rattle.changes.specs.Change.{entry_of, outcome_of, seen_of}
use Rattle.changes.specs.declared.Change.{Change}
use Rattle.changes.proofs.Within.{within_of}
use Rattle.lane_calls.specs.Decided.{book_decided}
use Rattle.lane_calls.proofs.Steps.{decided_regular, decided_step}
use Rattle.refuse.proofs.Shape.{shape_of}
use Rattle.event_calls.proofs.Changed.{meets_changed}
use Rattle.event_calls.proofs.call_lane.Goals as goal

pub decide-change-requires : goal.decide-change-requires
decide-change-requires c =
    let a = c.args in
    rw c.see-seen.ensures (within_of a.line (length a.book.now) (shape_of a.line c.well_formed.0) c.requires (entry_of a.lane))

pub apply-requires : goal.apply-requires
apply-requires c =
    let a = c.args in
    let within = within_of a.line (length a.book.now) (shape_of a.line c.well_formed.0) c.requires (entry_of a.lane) in
    let is = rw c.see-seen.ensures at c.decide-change.ensures.is in
    rw is (decided_regular (seen_of a.line (entry_of a.lane)) within.lanes_fit a.lane a.line.view a.line.flag a.book.now a.call).wakes

pub returns : goal.returns
returns c =
    let a = c.args in
    let within = within_of a.line (length a.book.now) (shape_of a.line c.well_formed.0) c.requires (entry_of a.lane) in
    let is = rw c.see-seen.ensures at c.decide-change.ensures.is in
    meets_changed a.line (entry_of a.lane) _ (decided_step a.line a.book.now within.lanes_fit c.requires a.call a.lane).is
    (c.apply.ensures ∙ ap (outcome_of a.line (entry_of a.lane)) is) (c.decide-change.ensures.book_left ∙ ap (λ (d : Change). book_decided a.call a.book.now d.answer) is)
