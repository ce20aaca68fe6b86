-- `has_room` meets its contract: no product, so that none wraps.
use Rattle.std.proofs.Common.{◌≡◌, ℕ, ◌-◌, ◌/◌, ◌≤◌, ◌<◌, leb, sym, ◌∙◌, arith}
use borrow.Author.Tests.{le-leb, leb-false, leb-true, lt-leb}
use Rattle.lists.proofs.Tests.{by_test}
use Rattle.answer_text.specs.Printing.{most_line}
use Rattle.run_text.specs.RunText.{most_last, most_text}
use Rattle.run_text.proofs.has_room.Goals as goal

-- the quotient is at least n where the product fits
quotient : (n m : ℕ) → most_last ≤ m → leb n ((m - most_last) / most_line) ≡ leb (most_text n) m
quotient n m h =
    by_test (leb (most_text n) m)
    (λ t. let f = leb-true (most_text n) m t in
    let g : n ≤ (m - most_last) / most_line = omega arith in
    le-leb n ((m - most_last) / most_line) g ∙ sym t)
    (λ t. let f = leb-false (most_text n) m t in
    let g : (m - most_last) / most_line < n = omega arith in
    lt-leb n ((m - most_last) / most_line) g ∙ sym t)

pub returns-then-out-ge-MOST_LAST : goal.returns-then-out-ge-MOST_LAST
returns-then-out-ge-MOST_LAST c = quotient c.args.sheet c.args.out c.if-out-ge-MOST_LAST.true

pub returns-else-out-ge-MOST_LAST : goal.returns-else-out-ge-MOST_LAST
returns-else-out-ge-MOST_LAST c =
    let less : c.args.out < most_text c.args.sheet = omega arith in
    lt-leb most_last c.args.out (omega arith) ∙ sym (lt-leb _ _ less)
