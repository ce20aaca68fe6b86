-- An answer of another case than a refusal is accepted.
use Prim.Native.Nat.{ℕ}
use mathlib.Core.Path.{◌≡◌, refl}
use mathlib.Core.Bool.{true}
use mathlib.Core.List.{List, [], ◌∷◌}
use types.Run.{OneOf, miss}
use denote.Enum.Declared.{tag_of}
use Rattle.steps.specs.Answer.{said_by}
use Rattle.steps.specs.declared.Answer.{Answer}
use Rattle.steps.specs.contracts.Answer.{the_type}

abbrev but_refused : List ℕ
but_refused = 0 ∷ 1 ∷ 2 ∷ 3 ∷ 4 ∷ 5 ∷ 6 ∷ 7 ∷ 8 ∷ 9 ∷ 10 ∷ 11 ∷ []

pub not_refused : (a : Answer) → OneOf but_refused (tag_of the_type a) → (said_by a).accepted ≡ true
not_refused (Answer.Open lanes capacity) k = refl
not_refused (Answer.Holds pointer) k = refl
not_refused Answer.Waits k = refl
not_refused (Answer.Region start count wakes) k = refl
not_refused (Answer.Wrote position) k = refl
not_refused (Answer.Record c) k = refl
not_refused Answer.None k = refl
not_refused (Answer.Freed wakes) k = refl
not_refused Answer.Gathered k = refl
not_refused (Answer.Ordered before total) k = refl
not_refused Answer.View k = refl
not_refused (Answer.Seek pointer) k = refl
not_refused (Answer.Refused number) k = absurd (miss but_refused 12 tt k)
