-- The columns of its line, with the answer and the line that the call leaves.
use Rattle.std.proofs.Common.{arith}
use Rattle.number_text.proofs.Stores.{and_then}
use Rattle.trace_text.proofs.step_event.Goals as goal

pub returns : goal.returns
returns c =
    let m = c.call_event-answer.ensures in
    let r = c.put_result-length in
    let e = c.put_event_column-to_answer in
    let n = c.put_event_number-to_event in
    record {
      text = rw (← m.answer, ← m.line) (and_then n.ensures.0 (and_then e.ensures.0 r.ensures.0));
      next = rw (← m.answer, ← m.line) c.go_on.ensures;
      book = m.book;
      more = rw (c.ends_run.ensures, m.answer);
      short = omega (arith, r.ensures.1, e.ensures.1, n.ensures.1);
    }
