-- Document 01, "One sheet, whole": the example sheet and what it prints.
use Rattle.std.specs.Prelude.{ℕ, List, [], ◌∷◌, ◌++◌}
use Rattle.printout.specs.Text.{ascii}

abbrev pub some_record : List ℕ
some_record = 1 ∷ 2 ∷ 3 ∷ 4 ∷ 5 ∷ 6 ∷ 7 ∷ 8 ∷ []

-- `01 02 00000040, 02 00 00, 02 01 00, 03 01, 04 00 0002, 03 01, 04 01 0001`, then 05 for lanes 1, 0, 0, 0, each with a record
abbrev pub example_sheet : List ℕ
example_sheet =
    (0x01 ∷ 0x02 ∷ 0 ∷ 0 ∷ 0 ∷ 0x40 ∷ 0x02 ∷ 0 ∷ 0 ∷ 0x02 ∷ 1 ∷ 0 ∷ 0x03 ∷ 1 ∷ 0x04 ∷ 0 ∷ 0 ∷ 2 ∷ 0x03 ∷ 1 ∷ 0x04 ∷ 1 ∷ 0 ∷ 1 ∷ [])
    ++ (0x05 ∷ 1 ∷ some_record) ++ (0x05 ∷ 0 ∷ some_record) ++ (0x05 ∷ 0 ∷ some_record) ++ (0x05 ∷ 0 ∷ some_record)

abbrev pub example_print : List ℕ
example_print =
    ascii "0 open 2 64\n1 holds 0\n2 waits\n3 refused 14\n4 region 0 2 wakes 1\n5 holds 2\n6 region 2 1 wakes none\n7 wrote 16\n8 wrote 0\n9 wrote 8\n10 refused 13\nend 24 3\n"
