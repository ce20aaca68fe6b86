-- The numbers of document 01's "Reasons for refusing".
use Rattle.std.specs.Prelude.{ℕ, Option, Some, None}
use Rattle.event.specs.declared.Refusal.{Refusal}

abbrev pub number_of : Refusal → ℕ
number_of Refusal.NotSound = 1
number_of Refusal.UnlistedKind = 2
number_of Refusal.CutShort = 3
number_of Refusal.NotOpen = 4
number_of Refusal.AlreadyOpen = 5
number_of Refusal.LanesOutside = 6
number_of Refusal.CapacityOutside = 7
number_of Refusal.NoSuchLane = 8
number_of Refusal.AboveTwo = 9
number_of Refusal.ViewBreaksRule = 10
number_of Refusal.LaneNotIdle = 11
number_of Refusal.LaneGathered = 12
number_of Refusal.WrongPhase = 13
number_of Refusal.NoWakeYet = 14
number_of Refusal.PointerOutside = 15
number_of Refusal.NoRoom = 16
number_of Refusal.TooLarge = 17

-- 0 where nothing is refused
abbrev pub number_or_none : Option Refusal → ℕ
number_or_none (Some r) = number_of r
number_or_none None = 0
