-- The events of a sheet one after the other: how far it is whole does not change on the way.
use Rattle.std.proofs.Common.{ℕ, zero, suc, ◌+◌, ◌-◌, ◌≤◌, ◌<◌, ◌≡◌, true, false, List, length, arith, refl, Some, None, Ok, Err}
use native.Mathlib.Nat.{sub-zero}
use lib.Dec.{leb}
use borrow.Author.Tests.{leb-false}
use Rattle.lists.proofs.Tests.{by_test}
use Rattle.event.specs.ReadWrite.{Reading, read_at}
use Rattle.event.specs.declared.Cursor.{Cursor}
use Rattle.event.specs.declared.Event.{Event}
use Rattle.event.specs.declared.Refusal.{Refusal}
use Rattle.event.proofs.Lengths.{reads}
use Rattle.notation_mistake.specs.Mistake.{is_whole, whole_from}

-- an index of the sheet, past some events
pub record Reached (sheet : List ℕ) (at : ℕ) : Type 0 where
  pub events : ℕ
  pub few : events ≤ at
  pub inside : at ≤ length sheet
  pub same : whole_from (length sheet - events) sheet at ≡ is_whole sheet

pub starts : (sheet : List ℕ) → Reached sheet 0
starts sheet = record { events = 0; few = omega arith; inside = omega arith; same = rw (sub-zero (length sheet)) }

pub further : (sheet : List ℕ) (at : ℕ) (e : Event) (next : Cursor) → Reached sheet at → read_at sheet at ≡ Ok (Some (e, next)) → Reached sheet next.at
unfolding whole_from
further sheet at e next R q =
    let r = reads sheet at e next q in
    let left : length sheet - R.events ≡ suc (length sheet - (R.events + 1)) = omega (arith, R.few, r.longer, r.within) in
    record { events = R.events + 1; few = omega (arith, R.few, r.longer); inside = r.within; same = rw (left, q) at R.same }

-- and less of the sheet is left
pub nearer : (sheet : List ℕ) (at : ℕ) (e : Event) (next : Cursor) → Reached sheet at → read_at sheet at ≡ Ok (Some (e, next)) → length sheet - next.at < length sheet - at
nearer sheet at e next R q = let r = reads sheet at e next q in omega (arith, r.longer, r.within)

-- the end
pub ends : (sheet : List ℕ) (at : ℕ) → Reached sheet at → read_at sheet at ≡ Ok None → true ≡ is_whole sheet
unfolding whole_from
ends sheet at R q = go (length sheet - R.events) refl
  where
    go : (n : ℕ) → length sheet - R.events ≡ n → true ≡ is_whole sheet
    go zero z = rw z at R.same
    go (suc n) z = rw (z, q) at R.same

end_refuses : {X : Type 0} (k : Refusal) → ◌≡◌ {A = Reading} (Ok None) (Err k) → X
end_refuses k e = let z : ◌≡◌ {A = ℕ} 0 1 = cc in absurd (omega arith)

-- bytes that are no event
pub refused : (sheet : List ℕ) (at : ℕ) (k : Refusal) → Reached sheet at → read_at sheet at ≡ Err k → false ≡ is_whole sheet
unfolding whole_from read_at
refused sheet at k R q =
    let left : length sheet - R.events ≡ suc (length sheet - R.events - 1) = omega (arith, R.few, inside) in
    rw (left, q) at R.same
  where
    inside : at < length sheet
    inside = by_test (leb (length sheet) at) (λ past. end_refuses k (rw past at q)) (λ more. leb-false (length sheet) at more)
