-- Whether a sheet is notation by mistake: it looks so, and its bytes are not events to its end. Not in the papers: the contract of notation_mistake::is_notation.
use Rattle.std.specs.Prelude.{ℕ, zero, suc, Bool, true, false, not, ◌&&◌, List, length, Some, None, Ok, Err}
use Rattle.event.specs.ReadWrite.{Reading, read_at}
use Rattle.notation.specs.Notation.{looks_like_notation}

-- what is read, and then the rest, from the next event on
abbrev pub whole_by : Reading → (ℕ → Bool) → Bool
whole_by (Ok (Some (e, next))) rest = rest next.at
whole_by (Ok None) rest = true
whole_by (Err k) rest = false

-- from an index on; each event is at least one byte long, so `most` at most are left
unfoldable pub whole_from : ℕ → List ℕ → ℕ → Bool
whole_from zero sheet at = true
whole_from (suc most) sheet at = whole_by (read_at sheet at) (whole_from most sheet)

abbrev pub is_whole : List ℕ → Bool
is_whole sheet = whole_from (length sheet) sheet 0

abbrev pub is_notation : List ℕ → Bool
is_notation sheet = looks_like_notation sheet && not (is_whole sheet)
