-- The tests of the lane, and past them what `decide_at` gives.
use Rattle.std.proofs.Common.{◌≡◌, ◌<◌, sym, ◌∙◌, arith}
use Rattle.event.specs.Refusal.{number_of}
use Rattle.event.proofs.Reasons.{some_number}
use Rattle.changes.specs.Change.{missing_lane}
use Rattle.changes.proofs.Steps.{lane_missing, lane_there, refused_with}
use Rattle.lane_calls.specs.Decided.{decided_change}
use Rattle.lane_calls.proofs.Refused.{refused_book}
use Rattle.lane_calls.proofs.decide.Goals as goal

pub returns-in-Some : goal.returns-in-Some
unfolding decided_change
returns-in-Some c =
    let a = c.args in
    let some : 0 < number_of c.in-Some.reason = some_number c.in-Some.reason in
    let number : number_of c.in-Some.reason ≡ missing_lane a.seen.lanes a.lane = c.in-Some.ensures in
    let told = refused_with a.seen (number_of c.in-Some.reason) c.refuse.ensures in
    record {
      is = told ∙ rw number (sym (lane_missing a.seen a.lane _ (λ z. absurd (omega arith))));
      book_left = rw told (refused_book a.call a.book.now _);
    }

pub returns : goal.returns
unfolding decided_change
returns c =
    let a = c.args in
    let none : missing_lane a.seen.lanes a.lane ≡ 0 = sym c.in_default.ensures in
    record { is = c.decide_at.ensures.is ∙ sym (lane_there a.seen a.lane _ none); book_left = c.decide_at.ensures.book_left }
