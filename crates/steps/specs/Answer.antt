-- What an answer says: document 01's number and values of each case.
use Rattle.std.specs.Prelude.{ℕ, Bool, true, false, List, [], ◌∷◌}
use Rattle.waitlist.specs.NextLane.{wakes_values}
use Rattle.steps.specs.declared.Answer.{Answer}

-- whether the call was accepted; the number: the kind that the answer answers (the first where there are two), or the refusal's;
-- the values in the printed order, the woken lane only where there is one
pub record Said : Type 0 where
  pub accepted : Bool
  pub number : ℕ
  pub values : List ℕ

abbrev pub accepts : ℕ → List ℕ → Said
accepts kind values = record { accepted = true; number = kind; values = values }

abbrev pub said_by : Answer → Said
said_by (Answer.Open lanes capacity) = accepts 0x01 (lanes ∷ capacity ∷ [])
said_by (Answer.Holds pointer) = accepts 0x02 (pointer.0 ∷ [])
said_by Answer.Waits = accepts 0x02 []
said_by (Answer.Region start count wakes) = accepts 0x04 (start.0 ∷ count ∷ wakes_values wakes)
said_by (Answer.Wrote position) = accepts 0x05 (position.0 ∷ [])
said_by (Answer.Record content) = accepts 0x06 (content ∷ [])
said_by Answer.None = accepts 0x06 []
said_by (Answer.Freed wakes) = accepts 0x09 (wakes_values wakes)
said_by Answer.Gathered = accepts 0x0A []
said_by (Answer.Ordered before total) = accepts 0x0A (before.0 ∷ total ∷ [])
said_by Answer.View = accepts 0x0B []
said_by (Answer.Seek pointer) = accepts 0x0C (pointer.0 ∷ [])
said_by (Answer.Refused number) = record { accepted = false; number = number; values = [] }
