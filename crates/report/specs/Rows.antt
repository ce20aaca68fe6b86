-- Wish 1: a row of the report of waiting, two rows joined, the report of no waiting, and a row's mean.
use Rattle.std.specs.Prelude.{ℕ, ◌+◌, ◌/◌, ◌%◌, max, cond, replicate, eqb}
use Rattle.limits.specs.Limits.{most_lanes}
use Rattle.report.specs.declared.Report.{Report}
use Rattle.report.specs.declared.Row.{Row}

abbrev pub row : ℕ → ℕ → ℕ → ℕ → Row
row times sum largest unended = record { times = times; sum = sum; largest = largest; unended = unended }

abbrev pub empty_row : Row
empty_row = row 0 0 0 0

abbrev pub empty_report : Report
empty_report = record { lane = replicate most_lanes empty_row; all = empty_row }

-- two rows as one: the numbers add up, and of the largest the greater stays
abbrev pub joined : Row → Row → Row
joined a b = row (a.times + b.times) (a.sum + b.sum) (max a.largest b.largest) (a.unended + b.unended)

-- "the mean as a whole number and a remainder (both 0 where none waited)", of a row's times and sum
abbrev pub mean_of : ℕ → ℕ → ℕ
mean_of times sum = cond (eqb times 0) 0 (sum / times)

abbrev pub remainder_of : ℕ → ℕ → ℕ
remainder_of times sum = cond (eqb times 0) 0 (sum % times)
