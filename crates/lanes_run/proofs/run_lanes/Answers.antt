-- Each turn of the loop is one event of the run.
use Prim.Native.Nat.{◌<◌}
use mathlib.Core.Path.{refl, ap, ◌∙◌}
use native.Mathlib.Omega.{arith}
use lib.ListN.{length}
use borrow.Author.Tests.{not-false, not-true}
use Rattle.tiling.proofs.Laws.{tileable}
use Rattle.line.proofs.Facts.{good_of}
use Rattle.changes.specs.Change.{entry_of}
use Rattle.number_text.proofs.Decimal.{few_digits}
use Rattle.line_number.specs.Numbered.{number_in}
use Rattle.line_number.proofs.Bytes.{keeps_number, keeps_own}
use Rattle.sheet_calls.specs.declared.Caller.{Caller}
use Rattle.lanes_run.specs.Parts.{line_now}
use Rattle.lanes_run.proofs.Going.{good_state, starts}
use Rattle.lanes_run.proofs.Stores.{sees_now}
use Rattle.lanes_run.proofs.Turns.{headed_inside, may_start, moves, refused_on, stored_on, turn_at, turned, turned_counted}
use Rattle.lanes_run.proofs.Refusals.{line_moves, line_refused_on, refusal_now_lem}
use Rattle.lanes_run.proofs.Waits.{counts_start}
use Rattle.lanes_run.proofs.Ready.{numbers_of, ready, ready_as}
use Rattle.lanes_run.proofs.run_lanes.Goals.{in-Some+then-not-called, in-Some+else-not-called, in_default+in-Some-refuse_line}
use Rattle.lanes_run.proofs.run_lanes.Goals as goal

pub records_of-records-requires : goal.records_of-records-requires
records_of-records-requires c =
    let l = c.args.from.line in
    let n = length c.args.book.now in
    tileable l.capacity l.view (numbers_of l n (good_of l n c.requires.shaped c.requires.is_sound)).view

pub loop-head-init : goal.loop-head-init
loop-head-init c =
    let a = c.args in
    let keeps = c.plain_number-number.ensures in
    let k = number_in c.plain_number-number.result in
    let B = c.requires in (
      record {
        going = starts a.sheet.now a.from.line a.book.now a.out.now a.from.at a.from.length k B.shaped B.is_sound B.inside (omega (arith, keeps_number keeps, B.numbered)) B.short;
        counted = counts_start a.sheet.now a.from.line a.book.now a.waits.now a.from.at k B.counting (omega (arith, keeps_number keeps, B.few));
      },
      c.counts_of-counts.ensures,
      keeps_own keeps,
    )

-- ---- a call of a lane
pub call_lane-called-requires-clause-ready : goal.call_lane-called-requires-clause-ready
call_lane-called-requires-clause-ready c =
    let I = c.loop-head.invariant in
    let l = line_now c.args.from.line c.loop-head.size c.loop-head.pointer c.loop-head.lane c.loop-head.flag in
    let j = entry_of c.in-Some.head.lane in
    let is = c.caller_of-caller.ensures in
    let sees = sees_now l c.entry_of-i.result j c.loop-head.counts c.caller_of-caller.result.seen c.entry_of-i.ensures.0 I.1 (ap (λ (x : Caller). x.seen) is) in
    ready_as l j sees (ap (λ (x : Caller). x.counts) is ∙ I.1) c.of-tiling.ensures c.records_of-records.ensures (ready l (length c.loop-head.book) I.0.going.shaped (good_state I.0.going) j (omega arith))

pub call_lane-called-requires-clause-room : goal.call_lane-called-requires-clause-room
call_lane-called-requires-clause-room c =
    let I = c.loop-head.invariant in
    let G = I.0.going in
    let H = c.in-Some.ensures.call c.in-Some.head refl in
    let number = number_in c.loop-head.number in
    let small : number < 10000000000000000000 = omega (arith, G.numbered, G.inside, c.requires.bounded) in
    rw (ap (λ (x : Caller). x.head) c.caller_of-caller.ensures)
    (record {
      kind = H.kind;
      fields = H.room;
      text = omega (arith, c.put_line_number-to.ensures.ends, few_digits 19 number (omega (arith, small)), G.short, G.inside, G.out_length, c.requires.room, c.put_line_number-to.auto.out);
    })

pub count_answer-requires : goal.count_answer-requires
count_answer-requires c =
    let I = c.loop-head.invariant in
    let inside = headed_inside (c.in-Some.ensures.call c.in-Some.head refl) in
    (record { consistent = I.0.counted.counting.consistent; few = omega (arith, I.0.counted.few, I.0.going.numbered, inside, c.requires.bounded) }, c.entry_of-i.ensures.1)

pub store_call-counts-requires : goal.store_call-counts-requires
store_call-counts-requires c =
    let I = c.loop-head.invariant in
    let l = line_now c.args.from.line c.loop-head.size c.loop-head.pointer c.loop-head.lane c.loop-head.flag in
    let t = turn_at c.args.from.line I.0 (omega (arith, I.0.going.numbered, I.0.going.inside, c.requires.bounded)) (c.in-Some.ensures.call c.in-Some.head refl) c.entry_of-i.ensures.0 c.caller_of-caller.ensures I.1 c.put_line_number-to.ensures c.of-tiling.ensures c.records_of-records.ensures
    c.call_lane-called.ensures c.call_lane-called.auto.book (c.call_lane-called.auto.out ∙ c.put_line_number-to.auto.out) in
    (c.entry_of-i.ensures.1, may_start t c.entry_of-i.result c.entry_of-i.ensures.0 (not-true _ c.if-not-called.true) (omega (arith, (numbers_of l (length c.loop-head.book) (good_state I.0.going)).reach)))

-- ---- the next turn
pub loop-head-smaller : goal.loop-head-smaller
loop-head-smaller c =
    let I = c.loop-head.invariant in
    elim c.match-head_at.branch [
      | in-Some+then-not-called w ↦ let m = moves (turn_at c.args.from.line I.0 (omega (arith, I.0.going.numbered, I.0.going.inside, c.requires.bounded)) (w.in-Some.ensures.call w.in-Some.head refl) w.entry_of-i.ensures.0 w.caller_of-caller.ensures I.1 w.put_line_number-to.ensures c.of-tiling.ensures c.records_of-records.ensures
          w.call_lane-called.ensures w.call_lane-called.auto.book (w.call_lane-called.auto.out ∙ w.put_line_number-to.auto.out)) in omega (arith, w.at-is, m.0, m.1)
      | in-Some+else-not-called w ↦ let m = moves (turn_at c.args.from.line I.0 (omega (arith, I.0.going.numbered, I.0.going.inside, c.requires.bounded)) (w.in-Some.ensures.call w.in-Some.head refl) w.entry_of-i.ensures.0 w.caller_of-caller.ensures I.1 w.put_line_number-to.ensures c.of-tiling.ensures c.records_of-records.ensures
          w.call_lane-called.ensures w.call_lane-called.auto.book (w.call_lane-called.auto.out ∙ w.put_line_number-to.auto.out)) in omega (arith, w.at-is, m.0, m.1)
      | in_default+in-Some-refuse_line w ↦ let m = line_moves (w.in-Some-refuse_line.ensures w.in-Some-refuse_line.refusal w.in-Some-refuse_line.next refl) in omega (arith, w.at-is, m.0, m.1)
    ]

pub loop-head-preserved : goal.loop-head-preserved
loop-head-preserved c =
    let I = c.loop-head.invariant in
    let line = c.args.from.line in
    let keeps = c.next_number-number.ensures in
    elim c.match-head_at.branch [
      | in-Some+then-not-called w ↦
          let t = turn_at c.args.from.line I.0 (omega (arith, I.0.going.numbered, I.0.going.inside, c.requires.bounded)) (w.in-Some.ensures.call w.in-Some.head refl) w.entry_of-i.ensures.0 w.caller_of-caller.ensures I.1 w.put_line_number-to.ensures c.of-tiling.ensures c.records_of-records.ensures
          w.call_lane-called.ensures w.call_lane-called.auto.book (w.call_lane-called.auto.out ∙ w.put_line_number-to.auto.out) in
          let S = stored_on t w.entry_of-i.result w.entry_of-i.ensures.0 (not-true _ w.if-not-called.true) w.store_call-counts.ensures in
          turned_counted line c.loop-head.waits w.call_lane-called.result.change.answer w.book-is w.out-is w.waits-is w.size-is w.pointer-is w.lane-is w.flag-is w.counts-is w.at-is w.length-is w.count_answer.ensures w.entry_of-i.ensures.0 S.0 S.1 keeps
      | in-Some+else-not-called w ↦
          let t = turn_at c.args.from.line I.0 (omega (arith, I.0.going.numbered, I.0.going.inside, c.requires.bounded)) (w.in-Some.ensures.call w.in-Some.head refl) w.entry_of-i.ensures.0 w.caller_of-caller.ensures I.1 w.put_line_number-to.ensures c.of-tiling.ensures c.records_of-records.ensures
          w.call_lane-called.ensures w.call_lane-called.auto.book (w.call_lane-called.auto.out ∙ w.put_line_number-to.auto.out) in
          turned line w.book-is w.out-is w.waits-is w.size-is w.pointer-is w.lane-is w.flag-is w.counts-is w.at-is w.length-is (refused_on t (not-false _ w.if-not-called.false)) I.1 keeps
      | in_default+in-Some-refuse_line w ↦
          let stored = w.put_refusal-length.ensures in
          let L = refusal_now_lem c.loop-head.lane c.loop-head.flag (w.in-Some-refuse_line.ensures w.in-Some-refuse_line.refusal w.in-Some-refuse_line.next refl) in
          turned line w.book-is w.out-is w.waits-is w.size-is w.pointer-is w.lane-is w.flag-is w.counts-is w.at-is w.length-is
          (line_refused_on I.0 I.1 L (rw w.number_of.ensures at stored.0) stored.1 w.put_refusal-length.auto.out) I.1 keeps
    ]
