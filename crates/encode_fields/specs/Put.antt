-- Fields stored from an index of a buffer on. Tied to `written_to` by encode/Answers: written.
use Rattle.std.specs.Prelude.{ℕ, List}
use Rattle.lists.specs.Lists.{sum_of}
use Rattle.std.proofs.lemmas.List.Edits.{sets}
use Rattle.event.specs.Event.{bytes_of}

-- the buffer with these numbers, in these lengths, from an index on
unfoldable pub put_fields : List ℕ → List ℕ → List ℕ → ℕ → List ℕ
put_fields lengths fields buffer at = sets buffer at (bytes_of lengths fields)

abbrev pub total : List ℕ → ℕ
total lengths = sum_of (λ (n : ℕ). n) lengths
