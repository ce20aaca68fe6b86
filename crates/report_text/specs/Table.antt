-- The report of waiting as a table, to the byte: a header, a line for each lane that has any wait, and a line for all lanes. Not in the papers: the contract of report_text::print_table.
use Rattle.std.specs.Prelude.{ℕ, suc, ◌-◌, Bool, cond, ◌||◌, List, [], ◌∷◌, ◌++◌, map, ltb, length, replicate}
use Rattle.printout.specs.Text.{ascii}
use Rattle.printout.specs.Print.{decimal, words}
use Rattle.report.specs.Rows.{mean_of, remainder_of}
use Rattle.report.specs.declared.Report.{Report}
use Rattle.report.specs.declared.Row.{Row}

-- ---- cells
-- a text right-aligned: blanks (byte 32) up to a least width, and then the text; a longer text is not cut
abbrev pub cell : ℕ → List ℕ → List ℕ
cell width text = replicate (width - length text) 32 ++ text

-- a line: the first cell has a least width of 4 and the others of 9, with single blanks between them
abbrev pub table_line : List ℕ → List (List ℕ) → List ℕ
table_line first others = words (cell 4 first ∷ map (cell 9) others)

-- ---- lines
abbrev pub header : List ℕ
header =
    table_line
    (ascii "lane")
    (ascii "times" ∷ ascii "sum" ∷ ascii "largest" ∷ ascii "mean" ∷ ascii "remainder" ∷ ascii "unended" ∷ [])

-- the numbers of a row, in that order
abbrev pub numbers_of : Row → List ℕ
numbers_of r = r.times ∷ r.sum ∷ r.largest ∷ mean_of r.times r.sum ∷ remainder_of r.times r.sum ∷ r.unended ∷ []

-- the line of a row: the name of whose it is, and its numbers
unfoldable pub row_line : List ℕ → Row → List ℕ
row_line name r = table_line name (map decimal (numbers_of r))

-- ---- the table
-- whether a row has any wait, ended or not
abbrev pub has_wait : Row → Bool
has_wait r = ltb 0 r.times || ltb 0 r.unended

-- the line of a lane; without any wait it has none
abbrev pub wait_line : ℕ → Row → List ℕ
wait_line i r = cond (has_wait r) (row_line (decimal i) r) []

-- the lines of the lanes from lane i on, whose row is the first
unfoldable pub wait_lines : ℕ → List Row → List ℕ
wait_lines i [] = []
wait_lines i (r ∷ rows) = wait_line i r ++ wait_lines (suc i) rows

abbrev pub table : Report → List ℕ
table report = header ++ (wait_lines 0 report.lane ++ row_line (ascii "all") report.all)
