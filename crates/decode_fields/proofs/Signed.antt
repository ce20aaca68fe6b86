-- The machine's signed numbers of four bytes are those of two's complement.
use Rattle.std.proofs.Common.{ℕ, suc, ◌-◌, ◌≡◌, ap, refl, Bool, true, false, cond}
use Rattle.std.specs.Int.{cast_signed}
use native.Mathlib.Omega.{arith}
use lib.Dec.{ltb}
use lib.IntN.{pos, negsuc}
use mir.Syntax.{w32}
use mir.Val.{SFits}
use borrow.Author.Tests.{ltb-false, ltb-true}
use Rattle.lists.proofs.Tests.{by_test}
use Rattle.event.specs.BigEndian.{signed}

pub cast_is : (n : ℕ) → cast_signed w32 n ≡ signed n
cast_is n =
    by_test (ltb n 2147483648)
    (λ low. rw low)
    (λ high. let same : ◌≡◌ {A = ℕ} (4294967296 - suc n) (4294967295 - n) = omega arith in
    rw high (ap negsuc same))

-- and fit them
pub signed_fits : (n : ℕ) → SFits w32 (signed n)
signed_fits n = by_half (ltb n 2147483648) refl
  where
    by_half : (b : Bool) → ltb n 2147483648 ≡ b → SFits w32 (cond b (pos n) (negsuc (4294967295 - n)))
    by_half true e = record { sfits = ltb-true n 2147483648 e }
    by_half false e = record { sfits = omega (arith, ltb-false n 2147483648 e) }
