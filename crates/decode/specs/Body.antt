-- The body of a kind, from an index of a sheet on. Tied to `read_at` by the contract of decode::read_event.
use Rattle.std.specs.Prelude.{ℕ, ◌+◌, List, drop}
use Rattle.event.specs.Kinds.{body_length}
use Rattle.event.specs.Event.{call_of}
use Rattle.event.specs.ReadWrite.{Reading, reading_of}

unfoldable pub body_at : ℕ → List ℕ → ℕ → Reading
body_at kind sheet at = reading_of (at + body_length kind) (call_of kind (drop at sheet))
