-- A buffer that may be too short, 1, 17, and else the run.
use mathlib.Core.Path.{◌≡◌, sym}
use mathlib.Core.Bool.{false}
use native.Mathlib.Omega.{arith}
use borrow.Author.Tests.{leb-true}
use Rattle.steps.specs.Meets.{state_of}
use Rattle.lists.proofs.Tests.{and_both}
use Rattle.report.specs.Lent.{cannot_count, gets17, is_sound}
use Rattle.report.proofs.Grown.{run_grows}
use Rattle.report.proofs.Refusal.{unsound_gets_1, unsound_report_as_lent, with_17_nothing_runs, with_17_report_as_lent, without_17_as_without_report}
use Rattle.run.proofs.Last.{no_room, refused_run, with_room}
use Rattle.run.proofs.run_reported.Goals as goal

pub returns-then-not-has_room : goal.returns-then-not-has_room
returns-then-not-has_room c =
    let a = c.args in
    no_room (state_of a.line a.book.now) a.report a.sheet.now a.out.now (sym c.if-not-has_room.ensures)

-- 1
pub end_run-requires : goal.end_run-requires
end_run-requires c = omega (arith, leb-true _ _ (sym c.if-not-has_room.ensures))

pub returns-then-not-is_sound : goal.returns-then-not-is_sound
returns-then-not-is_sound c =
    let a = c.args in
    let x = state_of a.line a.book.now in
    let unsound = sym c.if-not-is_sound.ensures in
    let roomy = sym c.if-not-has_room.ensures in
    with_room x a.report a.sheet.now a.out.now _ _ _ _ _ roomy (unsound_gets_1 x a.report a.sheet.now unsound) (unsound_report_as_lent x a.report a.sheet.now unsound)
    (rw c.end_run.ensures.is (refused_run 1 x a.report a.out.now _ _ c.end_run.ensures.text (omega (arith, c.end_run.ensures.short, leb-true _ _ roomy))))

-- 17
pub end_run-requires-then-cannot_count : goal.end_run-requires-then-cannot_count
end_run-requires-then-cannot_count c = omega (arith, leb-true _ _ (sym c.if-not-has_room.ensures))

pub returns-then-cannot_count : goal.returns-then-cannot_count
returns-then-cannot_count c =
    let a = c.args in
    let x = state_of a.line a.book.now in
    let roomy = sym c.if-not-has_room.ensures in
    let full = and_both (is_sound x) (cannot_count a.report a.sheet.now) (sym c.if-not-is_sound.ensures) (sym c.if-cannot_count.ensures) in
    with_room x a.report a.sheet.now a.out.now _ _ _ _ _ roomy (with_17_nothing_runs x a.report a.sheet.now full) (with_17_report_as_lent x a.report a.sheet.now full)
    (rw c.end_run-then-cannot_count.ensures.is (refused_run 17 x a.report a.out.now _ _ c.end_run-then-cannot_count.ensures.text (omega (arith, c.end_run-then-cannot_count.ensures.short, leb-true _ _ roomy))))

-- the first event is come to
pub run_sound-requires : goal.run_sound-requires
run_sound-requires c = (sym c.if-not-is_sound.ensures, leb-true _ _ (sym c.if-not-has_room.ensures), sym c.if-cannot_count.ensures)

pub returns : goal.returns
returns c =
    let a = c.args in
    let x = state_of a.line a.book.now in
    let sound_at = sym c.if-not-is_sound.ensures in
    let some : gets17 x a.report a.sheet.now ≡ false = rw sound_at (sym c.if-cannot_count.ensures) in
    with_room x a.report a.sheet.now a.out.now _ _ _ _ _ (sym c.if-not-has_room.ensures) (without_17_as_without_report x a.report a.sheet.now some) (run_grows x a.report a.sheet.now sound_at some) c.run_sound.ensures
