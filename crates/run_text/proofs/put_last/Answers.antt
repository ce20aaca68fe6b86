-- `put_last` meets its contract: with a refusal two lines, and otherwise `end` alone.
use Rattle.std.proofs.Common.{arith}
use Rattle.number_text.proofs.Stores.{and_then}
use Rattle.run_text.proofs.put_last.Goals.{in-None, in-Some}
use Rattle.run_text.proofs.put_last.Goals as goal

pub returns : goal.returns
returns c =
    elim c.match-refusal.branch [
      | in-Some w ↦
          let last = rw (w.out-is, w.end-is) at c.put_end.ensures in
          rw w.in-Some.is (and_then w.put_answer-end.ensures.0 last.0, omega (arith, w.put_answer-end.ensures.1, last.1))
      | in-None w ↦
          let last = rw (w.out-is, w.end-is) at c.put_end.ensures in
          rw w.in-None.is (last.0, omega (arith, last.1))
    ]
