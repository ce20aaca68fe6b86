-- The machine's signed numbers as four bytes of two's complement.
use Rattle.std.proofs.Common.{◌≡◌, refl}
use native.Mathlib.Omega.{arith}
use lib.IntN.{ℤ, pos, negsuc}
use mir.Syntax.{w32}
use Rattle.std.specs.Int.{cast_unsigned}
use Rattle.event.specs.BigEndian.{unsigned}

pub cast_is : (z : ℤ) → cast_unsigned w32 z ≡ unsigned z
cast_is (pos n) = refl
cast_is (negsuc n) = omega arith
