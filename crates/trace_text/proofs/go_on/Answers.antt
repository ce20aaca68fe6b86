-- No count is above the events' number.
use Rattle.std.proofs.Common.{ℕ, arith}
use lib.Dec.{leb}
use borrow.Author.Tests.{le-leb, leb-true}
use Rattle.lists.proofs.Counts.{all_mono}
use Rattle.trace_text.proofs.go_on.Goals as goal

pub count_answer-requires : goal.count_answer-requires
count_answer-requires c =
    all_mono (λ (n : ℕ). leb n c.args.from.number) (λ (n : ℕ). leb n 18446744073709551614) (λ n t. le-leb n 18446744073709551614 (omega (arith, leb-true n c.args.from.number t, c.requires.0))) c.args.from.counts c.requires.1
