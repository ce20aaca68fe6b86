-- The number of what a seek's offset is added to, as an event has it.
use Rattle.std.specs.Prelude.{ℕ}
use Rattle.setup_calls.specs.declared.target.Whence.{Whence}

abbrev pub whence_number : Whence → ℕ
whence_number Whence.PlaceZero = 0
whence_number Whence.Pointer = 1
whence_number Whence.EndOfBook = 2
