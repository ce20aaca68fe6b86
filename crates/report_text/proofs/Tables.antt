-- What holds of tables: a lane without any wait has no line, the lines of small numbers are of one length, and two tables computed.
use Prim.Native.Nat.{ℕ, suc, ◌+◌, ◌*◌, ◌/◌, ◌%◌, ◌≤◌, ◌<◌}
use mathlib.Core.Bool.{false}
use mathlib.Core.Path.{◌≡◌, refl}
use mathlib.Core.List.{List, [], ◌∷◌}
use native.Mathlib.Nat.{div-le_self, mod-le}
use native.Mathlib.Omega.{arith}
use lib.Dec.{eqb}
use lib.ListN.{get_or, length, length-append}
use Rattle.lists.specs.Lists.{count_pass}
use Rattle.lists.proofs.Tests.{at_test, by_test}
use Rattle.printout.specs.Text.{ascii}
use Rattle.printout.specs.Print.{decimal, decimal_in, words}
use Rattle.number_text.proofs.Decimal.{few_digits}
use Rattle.report.specs.Rows.{empty_report, empty_row, mean_of, remainder_of, row}
use Rattle.report.specs.declared.Report.{Report}
use Rattle.report.specs.declared.Row.{Row}
use Rattle.report_text.specs.Table.{cell, has_wait, header, wait_lines, row_line, table}
use Rattle.report_text.proofs.Cells.{cell_length}

-- ---- a lane without any wait has no line
pub no_wait_no_line : (i : ℕ) (r : Row) (rows : List Row) → has_wait r ≡ false → wait_lines i (r ∷ rows) ≡ wait_lines (suc i) rows
unfolding wait_lines
no_wait_no_line i r rows none = rw none

-- ---- each line is of one length where all numbers are below 10^9: a cell of 4, six of 9 with a blank before each, and the line end
abbrev pub line_length : ℕ
line_length = 65

-- the numbers of a row are below 10^9
pub record Small (r : Row) : Type 0 where
  pub times : r.times < 1000000000
  pub sum : r.sum < 1000000000
  pub largest : r.largest < 1000000000
  pub unended : r.unended < 1000000000

mean_below : (times sum : ℕ) → mean_of times sum ≤ sum
mean_below times sum = at_test (λ (n : ℕ). n ≤ sum) (eqb times 0) 0 (sum / times) (λ t. omega arith) (λ f. div-le_self sum times)

remainder_below : (times sum : ℕ) → remainder_of times sum ≤ sum
remainder_below times sum = at_test (λ (n : ℕ). n ≤ sum) (eqb times 0) 0 (sum % times) (λ t. omega arith) (λ f. mod-le sum times)

-- the cell of such a number is as wide as its column
small_cell : (n : ℕ) → n < 1000000000 → length (cell 9 (decimal n)) ≡ 9
small_cell n h = omega (arith, cell_length 9 (decimal n), few_digits 8 n (omega arith))

seven_length : (t u v w x y z : List ℕ) → length (words (t ∷ u ∷ v ∷ w ∷ x ∷ y ∷ z ∷ [])) ≡ length t + length u + length v + length w + length x + length y + length z + 7
unfolding words
seven_length t u v w x y z = simp length-append (omega arith)

pub header_length : length header ≡ line_length
unfolding words
header_length = refl

pub row_length : (name : List ℕ) (r : Row) → length name ≤ 4 → Small r → length (row_line name r) ≡ line_length
unfolding row_line
row_length name r short s =
    let mean = mean_of r.times r.sum in
    let remainder = remainder_of r.times r.sum in
    omega (
      arith,
      seven_length (cell 4 name) (cell 9 (decimal r.times)) (cell 9 (decimal r.sum)) (cell 9 (decimal r.largest)) (cell 9 (decimal mean)) (cell 9 (decimal remainder)) (cell 9 (decimal r.unended)),
      cell_length 4 name,
      small_cell r.times s.times,
      small_cell r.sum s.sum,
      small_cell r.largest s.largest,
      small_cell mean (omega (arith, mean_below r.times r.sum, s.sum)),
      small_cell remainder (omega (arith, remainder_below r.times r.sum, s.sum)),
      small_cell r.unended s.unended,
    )

-- a number of four digits fits the first column
lanes_length : (i : ℕ) (rows : List Row) → i + length rows ≤ 10000 → ((k : ℕ) → Small (get_or rows k empty_row)) → length (wait_lines i rows) ≡ line_length * count_pass has_wait rows
unfolding wait_lines
lanes_length i [] few small = refl
lanes_length i (r ∷ rows) few small =
    let ih = lanes_length (suc i) rows (omega arith) (λ k. small (suc k)) in
    let line = row_length (decimal i) r (few_digits 3 i (omega arith)) (small 0) in
    by_test (has_wait r) (λ t. rw t (omega (arith, ih, line, length-append (row_line (decimal i) r) (wait_lines (suc i) rows)))) (λ f. rw f (omega (arith, ih)))

-- the table has that length for the header, for each lane with any wait, and for all lanes
pub lines_alike :
    (report : Report) → length report.lane ≤ 10000 → ((k : ℕ) → Small (get_or report.lane k empty_row)) → Small report.all →
    length (table report) ≡ line_length * (count_pass has_wait report.lane + 2)
lines_alike report few lanes all =
    simp length-append
    (omega (arith, header_length, lanes_length 0 report.lane (omega arith) lanes, row_length (ascii "all") report.all (omega arith) all))

-- ---- computed: the report of no waiting, and one of three waits of lane 0 and one of lane 2 that has not ended
pub empty_table :
    table empty_report ≡
    ascii "lane     times       sum   largest      mean remainder   unended\n all         0         0         0         0         0         0\n"
unfolding wait_lines row_line words decimal_in
empty_table = refl

pub two_lanes :
    table (record { lane = row 3 5 2 0 ∷ empty_row ∷ row 0 0 0 1 ∷ []; all = row 3 5 2 1 }) ≡
    ascii
    "lane     times       sum   largest      mean remainder   unended\n   0         3         5         2         1         2         0\n   2         0         0         0         0         0         1\n all         3         5         2         1         2         1\n"
unfolding wait_lines row_line words decimal_in
two_lanes = refl
