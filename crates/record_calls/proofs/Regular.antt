-- The changes of the calls on records keep what a change keeps, and a record that is put lies within the buffer.
use Prim.Native.Nat.{ℕ, ◌+◌, ◌-◌, ◌≤◌}
use mathlib.Core.Path.{◌≡◌, refl}
use mathlib.Core.Bool.{Bool, true, false, cond, not}
use mathlib.Core.List.{List}
use native.Mathlib.Nat.{add-zero}
use native.Mathlib.Omega.{arith}
use lib.Dec.{leb}
use borrow.Author.Tests.{le-leb, leb-true, not-false}
use Rattle.lists.proofs.Tests.{at_test, implies_use}
use Rattle.view.specs.View.{fits, place, record_end}
use Rattle.view.specs.declared.Place.{Place}
use Rattle.view.specs.declared.Position.{Position}
use Rattle.view.specs.declared.View.{View}
use Rattle.line.specs.Line.{holds_whole, is_reading, is_writing, left_in, place_in}
use Rattle.line.proofs.Phases.{numbered}
use Rattle.steps.specs.declared.Answer.{Answer}
use Rattle.changes.specs.Change.{Within, refused_change}
use Rattle.changes.specs.declared.Change.{Change}
use Rattle.changes.specs.declared.Seen.{Seen}
use Rattle.changes.proofs.Steps.{Regular, reading_apart, regular_apart, regular_kept, regular_refused, writing_apart, regular_by}
use Rattle.record_calls.specs.Records.{look_change, next_position, put_at, put_change, read_change, storable, writable, write_change, written_by}

-- one record fits where it ends within the capacity
pub one_fits : (v : View) (capacity : ℕ) (k : Place) → fits v capacity k 1 ≡ leb (record_end v k) capacity
one_fits v capacity k = rw add-zero

module _ (s : Seen) (v : View) where
  none : Regular s (refused_change s 13)
  none = regular_kept s (Answer.Refused 13)

  -- ---- 05 and 07
  pub write_regular : Regular s (write_change s v)
  write_regular =
      regular_by s (is_writing s.phase)
      (λ w. regular_apart s refl (rw (numbered s.phase 4 w) (writing_apart (left_in s.phase - 1) (place ((place_in s.phase).0 + 1)))) (rw (numbered s.phase 4 w)))
      (λ _. none)

  pub put_regular : (k : Place) → Regular s (put_change s v k)
  put_regular k =
      regular_refused s 13 (not (holds_whole s.phase))
      (λ _. regular_refused s 16 (not (leb (record_end v k) s.capacity)) (λ _. record { wakes = refl; gathered = refl; count = refl }))

  -- ---- 06 and 08
  module _ (book : List ℕ) where
    pub read_regular : Regular s (read_change s v book)
    read_regular =
        regular_by s (is_reading s.phase)
        (λ r. regular_apart s refl (rw (numbered s.phase 5 r) (reading_apart (left_in s.phase - 1) (place ((place_in s.phase).0 + 1)))) (rw (numbered s.phase 5 r)))
        (λ _. none)

    pub look_regular : (k : Place) → Regular s (look_change s v book k)
    look_regular k = regular_refused s 13 (not (holds_whole s.phase)) (λ _. record { wakes = refl; gathered = refl; count = refl })

-- ---- a record that is put lies within a buffer that holds the capacity
module _ (s : Seen) (p : Position) (n : ℕ) (held : s.capacity ≤ n) where
  abbrev Fits : Change → Type 0
  Fits c = storable c.answer n ≡ true

  -- a call that may be refused
  guard : (k : ℕ) (b : Bool) (c : Change) → (b ≡ false → Fits c) → Fits (cond b (refused_change s k) c)
  guard k b c f = at_test Fits b (refused_change s k) c (λ _. refl) f

  room : leb (p.0 + 8) s.capacity ≡ true → leb (p.0 + 8) n ≡ true
  room f = le-leb (p.0 + 8) n (omega (arith, leb-true (p.0 + 8) s.capacity f, held))

  pub written_storable : writable s p ≡ true → storable (written_by s p s.phase).answer n ≡ true
  written_storable fit = at_test Fits (is_writing s.phase) _ _ (λ w. room (implies_use (is_writing s.phase) _ fit w)) (λ _. refl)

  pub put_at_storable : storable (put_at s p).answer n ≡ true
  put_at_storable =
      guard 13 (not (holds_whole s.phase)) _ (λ _. guard 16 (not (leb (p.0 + 8) s.capacity)) _ (λ e. room (not-false _ e)))

-- the next record of a busy writer fits at its position
pub next_fits : (s : Seen) (v : View) (n : ℕ) → Within s v n → (p : Position) → p ≡ next_position v s → writable s p ≡ true
next_fits s v n W p e = rw (e, ← one_fits v s.capacity (place_in s.phase)) W.writer
