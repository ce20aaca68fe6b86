-- The columns of its line, with the line as it was.
use Rattle.std.proofs.Common.{arith, refl}
use Rattle.number_text.proofs.Stores.{and_then}
use Rattle.trace_text.proofs.step_refused.Goals as goal

pub returns : goal.returns
returns c =
    let r = c.put_result-length in
    let e = c.put_byte_column-to_answer in
    let n = c.put_event_number-to_byte in
    record {
      text = rw (← c.number.ensures) (and_then n.ensures.0 (and_then e.ensures.0 r.ensures.0));
      next = rw (← c.number.ensures) c.go_on.ensures;
      book = refl;
      more = refl;
      short = omega (arith, r.ensures.1, e.ensures.1, n.ensures.1);
    }
