-- `number_text::put_decimal` meets its contract: by how many digits the number has; each branch stores them from the first on.
use Rattle.std.proofs.Common.{arith}
use lib.ListN.{length-set}
use Rattle.number_text.proofs.Stores.{and_then, one_byte, stored_length}
use Rattle.number_text.proofs.Decimal.{decimal_last, decimal_two, decimal_three, decimal_four, decimal_five}
use Rattle.number_text.proofs.put_decimal.Goals as goal

-- ---- one digit
pub bounds-out-at : goal.bounds-out-at
bounds-out-at c = omega (arith, rw (decimal_last _ c.if-n-lt10.true) at c.requires)

pub returns-then-n-lt10 : goal.returns-then-n-lt10
returns-then-n-lt10 c = rw (decimal_last _ c.if-n-lt10.true) (one_byte _ _ _)

-- ---- two digits
pub put_pair-requires : goal.put_pair-requires
put_pair-requires c = (c.if-n-lt100.true, rw (decimal_two _ c.if-n-lt10.false c.if-n-lt100.true) at c.requires)

pub returns-then-n-lt100 : goal.returns-then-n-lt100
returns-then-n-lt100 c = rw (decimal_two _ c.if-n-lt10.false c.if-n-lt100.true) c.put_pair.ensures

-- ---- three digits
pub bounds-out-at-then-n-lt1000 : goal.bounds-out-at-then-n-lt1000
bounds-out-at-then-n-lt1000 c = omega (arith, rw (decimal_three _ c.if-n-lt100.false c.if-n-lt1000.true) at c.requires)

pub put_pair-requires-then-n-lt1000 : goal.put_pair-requires-then-n-lt1000
put_pair-requires-then-n-lt1000 c =
    (omega arith, simp length-set (omega (arith, rw (decimal_three _ c.if-n-lt100.false c.if-n-lt1000.true) at c.requires)))

pub returns-then-n-lt1000 : goal.returns-then-n-lt1000
returns-then-n-lt1000 c =
    rw (decimal_three _ c.if-n-lt100.false c.if-n-lt1000.true) (and_then (one_byte _ _ _) c.put_pair-then-n-lt1000.ensures)

-- ---- four digits
pub put_pair-last-requires : goal.put_pair-last-requires
put_pair-last-requires c = (omega arith, omega (arith, rw (decimal_four _ c.if-n-lt1000.false c.if-n-lt10000.true) at c.requires))

pub put_pair-requires-then-n-lt10000 : goal.put_pair-requires-then-n-lt10000
put_pair-requires-then-n-lt10000 c =
    let stored = c.put_pair-last.ensures in
    (omega arith, omega (arith, rw (decimal_four _ c.if-n-lt1000.false c.if-n-lt10000.true) at c.requires, stored.ends, stored_length stored))

pub returns-then-n-lt10000 : goal.returns-then-n-lt10000
returns-then-n-lt10000 c =
    rw (decimal_four _ c.if-n-lt1000.false c.if-n-lt10000.true) (and_then c.put_pair-last.ensures c.put_pair-then-n-lt10000.ensures)

-- ---- five digits
pub bounds-out-at-then-n-lt100000 : goal.bounds-out-at-then-n-lt100000
bounds-out-at-then-n-lt100000 c = omega (arith, rw (decimal_five _ c.if-n-lt10000.false c.if-n-lt100000.true) at c.requires)

pub put_pair-last-requires-then-n-lt100000 : goal.put_pair-last-requires-then-n-lt100000
put_pair-last-requires-then-n-lt100000 c =
    (omega arith, simp length-set (omega (arith, rw (decimal_five _ c.if-n-lt10000.false c.if-n-lt100000.true) at c.requires)))

pub put_pair-requires-then-n-lt100000 : goal.put_pair-requires-then-n-lt100000
put_pair-requires-then-n-lt100000 c =
    let stored = c.put_pair-last-then-n-lt100000.ensures in (
      omega arith,
      omega (arith, rw (decimal_five _ c.if-n-lt10000.false c.if-n-lt100000.true) at c.requires, stored.ends, simp length-set at (stored_length stored)),
    )

pub returns-then-n-lt100000 : goal.returns-then-n-lt100000
returns-then-n-lt100000 c =
    rw (decimal_five _ c.if-n-lt10000.false c.if-n-lt100000.true)
    (and_then (and_then (one_byte _ _ _) c.put_pair-last-then-n-lt100000.ensures) c.put_pair-then-n-lt100000.ensures)
