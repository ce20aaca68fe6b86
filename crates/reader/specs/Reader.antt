-- A reader over lent bytes: `read_at`, and how far it has got then. Tied to `run` by the contract of run::run_reported, which reads by it.
use Rattle.std.specs.Prelude.{Some, None, Ok, Err, ℕ, List}
use Rattle.event.specs.ReadWrite.{Reading, read_at}
use Rattle.reader.specs.declared.Reader.{Reader}
use Rattle.reader.specs.declared.Step.{Step}

-- the cursor goes past an event, and stays at the end and after a refusal
abbrev pub after_reading : ℕ → Reading → ℕ
after_reading at (Ok (Some (e, next))) = next.at
after_reading at (Ok None) = at
after_reading at (Err k) = at

abbrev pub step_at : List ℕ → ℕ → Step
step_at sheet at = record { reading = read_at sheet at; at = after_reading at (read_at sheet at) }

abbrev pub reader_step : Reader → Step
reader_step r = step_at r.sheet.now r.at

abbrev pub onward : Reader → Reader
onward r = record { sheet = r.sheet; at = (step_at r.sheet.now r.at).at }
