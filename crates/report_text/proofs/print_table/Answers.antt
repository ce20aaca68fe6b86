-- `print_table` meets its contract: the room for the longest table, then the table.
use Rattle.std.proofs.Common.{arith, refl, length, ◌≡◌}
use borrow.Author.Tests.{le-ltb, lt-ltb}
use Rattle.report_text.specs.Table.{table}
use Rattle.report_text.proofs.print_table.Goals as goal

pub returns-then-out-lt-MOST_TABLE : goal.returns-then-out-lt-MOST_TABLE
returns-then-out-lt-MOST_TABLE c =
    let short = lt-ltb _ _ c.if-out-lt-MOST_TABLE.true in
    record { answer = rw short refl; text = rw short refl; fits = λ n e. cc }

pub returns-else-out-lt-MOST_TABLE : goal.returns-else-out-lt-MOST_TABLE
returns-else-out-lt-MOST_TABLE c =
    let room = le-ltb _ _ c.if-out-lt-MOST_TABLE.false in
    let put = c.put_table.ensures in
    let end : c.put_table.result ≡ length (table c.args.report) = omega (arith, put.0.ends) in
    record {
      answer = rw (room, end) refl;
      text = rw room put.0.bytes;
      fits = λ n is. let same : c.put_table.result ≡ n = cc in omega (arith, put.1, c.if-out-lt-MOST_TABLE.false);
    }
