-- The table in a lent buffer, where the longest table has room. That none is longer: the contract of report_text::print_table.
use Rattle.std.specs.Prelude.{ℕ, Result, Ok, ◌+◌, ◌*◌, ◌≤◌, cond, List, ◌≡◌, ltb, length}
use Rattle.std.proofs.lemmas.List.Edits.{sets}
use Rattle.limits.specs.Limits.{most_lanes}
use Rattle.answer_text.specs.Printing.{too_short}
use Rattle.answer_text.specs.declared.TooShort.{TooShort}
use Rattle.report.specs.declared.Report.{Report}
use Rattle.report_text.specs.Table.{table}

-- the longest cell with the byte after it: a number of 64 bits has 20 digits at most
abbrev pub most_cell : ℕ
most_cell = 21

-- the longest lines: of six numbers, and with the cell before them
abbrev pub most_numbers : ℕ
most_numbers = 6 * most_cell

abbrev pub most_table_line : ℕ
most_table_line = most_cell + most_numbers

-- the longest table: a line for each lane, the header and the line for all lanes
abbrev pub most_wait_lines : ℕ
most_wait_lines = most_lanes * most_table_line

abbrev pub most_table : ℕ
most_table = most_wait_lines + 2 * most_table_line

-- the table at the buffer's start, its length, and every other byte as it was; a shorter buffer is left as it was
pub record TableMeets (report : Report) (out : List ℕ) (r : Result ℕ TooShort) (out-left : List ℕ) : Type 0 where
  pub answer : r ≡ cond (ltb (length out) most_table) too_short (Ok (length (table report)))
  pub text : out-left ≡ cond (ltb (length out) most_table) out (sets out 0 (table report))
  pub fits : (n : ℕ) → r ≡ Ok n → n ≤ length out
