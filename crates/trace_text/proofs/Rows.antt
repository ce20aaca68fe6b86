-- The lanes that a row shows.
use Prim.Native.Nat.{ℕ, ◌≤◌, ◌<◌, min}
use mathlib.Core.Path.{◌≡◌, sym, ◌∙◌}
use mathlib.Core.Logic.{◌⊎◌, inl, inr}
use mathlib.Core.List.{List, map}
use native.Mathlib.Omega.{arith}
use lib.ListN.{length, length-map, length-take, take}
use lib.Seq.{take_all, take-length}
use Rattle.lists.proofs.Parts.{below_or_not}

-- a list cut at n is as well cut at the length that is left
pub taken_count : {A B : Type 0} (f : A → B) (l : List A) (n count : ℕ) → count ≡ length (map f (take n l)) → take count l ≡ take n l
taken_count f l n count same = go (below_or_not n (length l))
  where
    long : count ≡ min n (length l)
    long = same ∙ length-map (take n l) f ∙ length-take n l

    go : (n < length l) ⊎ (length l ≤ n) → take count l ≡ take n l
    go (inl h) = let is : count ≡ n = omega (arith, long) in rw is
    go (inr h) = let is : count ≡ length l = omega (arith, long) in rw is (take-length l ∙ sym (take_all n l h))
