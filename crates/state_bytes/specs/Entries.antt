-- The numbers of an entry as the code holds them. Tied to StateBytes by the contracts of state_bytes::line_in and state_bytes::put_state.
use Rattle.std.specs.Prelude.{ℕ, List, [], ◌∷◌}
use Rattle.state_bytes.specs.declared.entries.Entry.{Entry}

abbrev pub numbers_in : Entry → List ℕ
numbers_in e = e.phase ∷ e.purpose ∷ e.records ∷ e.place ∷ []
