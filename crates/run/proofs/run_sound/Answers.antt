-- Each turn of the loop is a part of the run, and one event more.
use Rattle.std.specs.Prelude.{Ok}
use mathlib.Core.Path.{sym, ap, ◌∙◌}
use native.Mathlib.Omega.{arith}
use lib.ListN.{length}
use borrow.Author.Tests.{ltb-false}
use Rattle.limits.specs.Limits.{most_sheet}
use Rattle.lists.proofs.Tests.{neither_left, neither_right}
use Rattle.line.proofs.Facts.{good_of}
use Rattle.report.specs.Lent.{is_full}
use Rattle.report.proofs.Shape.{rows_of}
use Rattle.wait_counts.specs.Counts.{no_counts}
use Rattle.wait_counts.proofs.Reports.{none_counted}
use Rattle.steps.specs.Meets.{state_of}
use Rattle.reader.specs.Reader.{after_reading}
use Rattle.reader.specs.declared.Step.{Step}
use Rattle.refuse.proofs.Shape.{shape_of}
use Rattle.lanes_run.specs.declared.Standing.{Standing}
use Rattle.lanes_run.proofs.Going.{starts}
use Rattle.lanes_run.proofs.Waits.{counts_start}
use Rattle.run.proofs.Going.{advances, begins, ends_refused, ends_sheet, growable, line_called, longer, no_other, room}
use Rattle.run.proofs.run_sound.Goals as goal

pub loop-found-init : goal.loop-found-init
loop-found-init c =
    let a = c.args in
    rw c.stand_at-from.ensures
    (record {
      going = starts a.sheet.now a.line a.book.now a.out.now 0 0 0 (shape_of a.line c.well_formed.0) c.requires.0 (omega arith) (omega arith) (omega arith);
      counted = counts_start a.sheet.now a.line a.book.now no_counts 0 0 (none_counted (state_of a.line a.book.now)) (omega arith);
    })

-- the sheet is not too long
pub run_lanes-to-requires : goal.run_lanes-to-requires
run_lanes-to-requires c = begins c.loop-found.invariant c.requires.1 (ltb-false most_sheet _ (neither_right (is_full c.args.report) _ c.requires.2))

pub grow-grown-requires : goal.grow-grown-requires
grow-grown-requires c =
    growable _ _ _ _ _ _ _ _ _ _ (advances c.loop-found.invariant c.run_lanes-to.ensures.part) c.args.report (rows_of c.args.report c.well_formed.1.1.1.1.0) (neither_left (is_full c.args.report) _ c.requires.2)
    (ltb-false most_sheet _ (neither_right (is_full c.args.report) _ c.requires.2))

pub grow-grown-requires-in_default-found : goal.grow-grown-requires-in_default-found
grow-grown-requires-in_default-found c =
    growable _ _ _ _ _ _ _ _ _ _ (advances c.loop-found.invariant c.run_lanes-to.ensures.part) c.args.report (rows_of c.args.report c.well_formed.1.1.1.1.0) (neither_left (is_full c.args.report) _ c.requires.2)
    (ltb-false most_sheet _ (neither_right (is_full c.args.report) _ c.requires.2))

pub end_run-requires : goal.end_run-requires
end_run-requires c = room _ _ _ _ _ _ _ _ _ _ (advances c.loop-found.invariant c.run_lanes-to.ensures.part) c.requires.1

pub end_run-requires-in_default-found : goal.end_run-requires-in_default-found
end_run-requires-in_default-found c = room _ _ _ _ _ _ _ _ _ _ (advances c.loop-found.invariant c.run_lanes-to.ensures.part) c.requires.1

pub end_run-requires-in_default-scope_of : goal.end_run-requires-in_default-scope_of
end_run-requires-in_default-scope_of c = room _ _ _ _ _ _ _ _ _ _ (advances c.loop-found.invariant c.run_lanes-to.ensures.part) c.requires.1

-- where the sheet ends, and where bytes are refused
pub returns-in_default-found : goal.returns-in_default-found
returns-in_default-found c =
    let s = c.args in
    let A = advances c.loop-found.invariant c.run_lanes-to.ensures.part in
    let read = sym (ap (λ (t : Step). t.reading) c.event_at-step.ensures) ∙ c.in-Ok.is ∙ ap Ok c.in_default-found.is in
    rw (c.end_run-in_default-found.ensures.is, c.grow-grown-in_default-found.ensures)
    (ends_sheet _ _ _ _ _ _ _ _ _ _ A s.report (rows_of s.report c.well_formed.1.1.1.1.0) (good_of s.line (length s.book.now) (shape_of s.line c.well_formed.0) c.requires.0) c.requires.0 _ _ read
    c.end_run-in_default-found.ensures.text (omega (arith, c.end_run-in_default-found.ensures.short, room _ _ _ _ _ _ _ _ _ _ A c.requires.1, A.going.out_length)))

pub returns-in_default : goal.returns-in_default
returns-in_default c =
    let s = c.args in
    let A = advances c.loop-found.invariant c.run_lanes-to.ensures.part in
    let read = sym (ap (λ (t : Step). t.reading) c.event_at-step.ensures) ∙ c.in_default.is in
    let refusal = rw c.in_default.is at c.err-refusal.ensures.value in
    let E = rw refusal at c.end_run.ensures in
    rw (E.is, c.grow-grown.ensures)
    (ends_refused _ _ _ _ _ _ _ _ _ _ A s.report (rows_of s.report c.well_formed.1.1.1.1.0) (good_of s.line (length s.book.now) (shape_of s.line c.well_formed.0) c.requires.0) c.requires.0 _ _ _ read
    E.text (omega (arith, E.short, room _ _ _ _ _ _ _ _ _ _ A c.requires.1, A.going.out_length)))

-- an event where a part ends is a call on the whole line
pub returns-in_default-scope_of : goal.returns-in_default-scope_of
returns-in_default-scope_of c =
    let is = c.in-Ok.is ∙ ap Ok c.in-Some.is in
    let read = sym (ap (λ (s : Step). s.reading) c.event_at-step.ensures) ∙ is in
    absurd (no_other _ _ c.run_lanes-to.ensures.stops c.in-Some.event c.in-Some.field-0-1 read c.scope_of.result (sym c.scope_of.ensures) c.in_default-scope_of.not-Line)

-- the run has gone on by a part and the call on the whole line
pub loop-found-preserved : goal.loop-found-preserved
loop-found-preserved c =
    let step = c.event_at-step.ensures in
    let is = c.in-Ok.is ∙ ap Ok c.in-Some.is in
    let read = sym (ap (λ (s : Step). s.reading) step) ∙ is in
    rw c.stand_at-from-in-loop-found.ensures
    (line_called _ _ _ _ _ _ _ _ _ _ (advances c.loop-found.invariant c.run_lanes-to.ensures.part) c.in-Some.event c.in-Some.field-0-1 read _ (sym c.scope_of.ensures ∙ c.in-Line.is) c.call_line-called.result _ c.call_line-called.ensures
    _ _ c.put_answer-length.ensures.0 c.put_answer-length.ensures.1 c.call_line-called.auto.book c.put_answer-length.auto.out _ (ap (λ (s : Step). s.at) step ∙ ap (after_reading c.run_lanes-to.result.at) read))

pub loop-found-smaller : goal.loop-found-smaller
loop-found-smaller c =
    longer c.call_line-called.result.answer c.run_lanes-to.ensures.part.going c.put_answer-length.ensures.0 (ap (λ (s : Standing). s.length) c.stand_at-from-in-loop-found.ensures) (loop-found-preserved c).going
