-- The version of the library, as a number and as the line that its programs print; no theorem ties it to document 01, which has none.
use Rattle.std.specs.Prelude.{ℕ, List}
use Rattle.printout.specs.Text.{ascii}

-- 1.0.0: document 01 whole; 1.1.0: the programs tell what went wrong, and `sheet trace`; 1.2.0: the report of waiting;
-- 2.0.0: 128 lanes, and so a longer report, which is lent by its layout; 2.1.0: whence 2 counts the places of the view; 2.2.0: calls one at a time
abbrev pub version_number : ℕ
version_number = 20200

abbrev pub version_line : List ℕ
version_line = ascii "gudlemi 2.2.0\n"
