-- The numbers that document 01 sets as limits, each in one place of the definitions.
use Rattle.std.specs.Prelude.{ℕ}

-- "N is 1 to 64", with Wish 2 "1 to 128"; the code's array lengths are held to this number by the contract of `Line::unopened`
abbrev pub most_lanes : ℕ
most_lanes = 128

-- "The capacity is 8 to 65,536 bytes"
abbrev pub least_capacity : ℕ
least_capacity = 8

abbrev pub most_capacity : ℕ
most_capacity = 65536

-- "The pointer is a place, 0 to 65,536"
abbrev pub most_pointer : ℕ
most_pointer = 65536

-- "an extent of 1 to 1,024 records, and 1 to 8 blocks"
abbrev pub most_extent : ℕ
most_extent = 1024

abbrev pub most_blocks : ℕ
most_blocks = 8

-- "reads a sheet from standard input (at most 65,536 bytes ..)"
abbrev pub most_sheet : ℕ
most_sheet = 65536
