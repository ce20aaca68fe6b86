-- The lines of the lanes, stored one after the other: those from where the loop stands on, stored there, give what all give.
use Prim.Native.Nat.{ℕ, suc, ◌+◌, ◌*◌, ◌≤◌, ◌<◌}
use mathlib.Core.Path.{◌≡◌, refl, ap, ◌∙◌}
use mathlib.Core.List.{List, ◌++◌}
use native.Mathlib.Omega.{arith}
use lib.ListN.{drop, get_or, length, length-append}
use lib.Seq.{drop-cons, sets}
use Rattle.lists.proofs.Loops.{drop_end}
use Rattle.lists.proofs.Sets.{sets_append}
use Rattle.number_text.specs.Stored.{Stored}
use Rattle.number_text.proofs.Stores.{stored_length}
use Rattle.report.specs.Rows.{empty_row}
use Rattle.report.specs.declared.Row.{Row}
use Rattle.report_text.specs.Table.{wait_line, wait_lines}
use Rattle.report_text.specs.Printing.{most_table_line}

pub record LanesLeft (rows : List Row) (before : List ℕ) (at : ℕ) (after : List ℕ) (end i : ℕ) : Type 0 where
  pub bytes : sets after end (wait_lines i (drop i rows)) ≡ sets before at (wait_lines 0 rows)
  pub ends : end + length (wait_lines i (drop i rows)) ≡ at + length (wait_lines 0 rows)
  pub same_length : length after ≡ length before
  pub short : end ≤ at + i * most_table_line
  pub most : i ≤ length rows

module _ (rows : List Row) (before : List ℕ) (at : ℕ) where
  pub none_yet : LanesLeft rows before at before at 0
  none_yet = record { bytes = refl; ends = refl; same_length = refl; short = omega arith; most = omega arith }

  -- the line of lane i, stored where those of the lanes before it end
  pub one_more : {after later : List ℕ} {end next : ℕ} (i : ℕ) → LanesLeft rows before at after end i → i < length rows
      → Stored (wait_line i (get_or rows i empty_row)) after end later next → next ≤ end + most_table_line → LanesLeft rows before at later next (i + 1)
  unfolding wait_lines
  one_more {after} {later} {end} {next} i s below line short =
      let up : i + 1 ≡ suc i = omega arith in
      let rest = wait_lines (suc i) (drop (suc i) rows) in
      let here : wait_lines i (drop i rows) ≡ wait_line i (get_or rows i empty_row) ++ rest = ap (wait_lines i) (drop-cons rows i empty_row below) in
      record {
        bytes = rw (up, line.bytes, line.ends) (sets_append (wait_line i (get_or rows i empty_row)) rest after end ∙ rw (← here) s.bytes);
        ends = rw (up, line.ends) (omega (arith, s.ends, ap length here, length-append (wait_line i (get_or rows i empty_row)) rest));
        same_length = stored_length line ∙ s.same_length;
        short = omega (arith, s.short, short);
        most = omega (arith, below);
      }

  pub all_stored : {after : List ℕ} {end : ℕ} (i : ℕ) → LanesLeft rows before at after end i → length rows ≤ i → Stored (wait_lines 0 rows) before at after end
  unfolding wait_lines
  all_stored {after} {end} i s past =
      let none = drop_end rows i past in
      record { bytes = rw none at s.bytes; ends = omega (arith, rw none at s.ends) }
