-- Every reason has a number, and none of them is 0.
use Rattle.std.proofs.Common.{◌<◌, arith}
use Rattle.event.specs.Refusal.{number_of}
use Rattle.event.specs.declared.Refusal.{Refusal}

pub some_number : (r : Refusal) → 0 < number_of r
some_number Refusal.NotSound = omega arith
some_number Refusal.UnlistedKind = omega arith
some_number Refusal.CutShort = omega arith
some_number Refusal.NotOpen = omega arith
some_number Refusal.AlreadyOpen = omega arith
some_number Refusal.LanesOutside = omega arith
some_number Refusal.CapacityOutside = omega arith
some_number Refusal.NoSuchLane = omega arith
some_number Refusal.AboveTwo = omega arith
some_number Refusal.ViewBreaksRule = omega arith
some_number Refusal.LaneNotIdle = omega arith
some_number Refusal.LaneGathered = omega arith
some_number Refusal.WrongPhase = omega arith
some_number Refusal.NoWakeYet = omega arith
some_number Refusal.PointerOutside = omega arith
some_number Refusal.NoRoom = omega arith
some_number Refusal.TooLarge = omega arith
