-- Where what was read from a file lies, and what it is.
use Rattle.std.specs.Prelude.{◌<◌, ℕ, Bool, true, leb, List, Option, Result, Ok, Err, length, take}
use Rattle.std.specs.Io.KnownBytes.{Consumes, IsAtEnd}

-- what was read lies within a buffer of this length
abbrev pub within : {E : Type 0} → Result ℕ E → ℕ → Bool
within (Ok count) most = leb count most
within (Err error) most = true

-- the reader lost the bytes that were read, which stand at the front of the buffer; where the buffer is not full, none are left
abbrev pub Reads : {E : Type 0} → Option (List ℕ) → Option (List ℕ) → Result ℕ E → List ℕ → Type 0
Reads old new (Ok count) space = Consumes old new (take count space) × (count < length space → IsAtEnd new)
Reads old new (Err error) space = (count : ℕ) × Consumes old new (take count space)
