-- The rows of the lanes: each grows by its own waits, and that for all lanes by theirs together.
use Prim.Native.Nat.{ℕ, zero, suc, ◌+◌, ◌≤◌, ◌<◌}
use mathlib.Core.Path.{◌≡◌, refl, sym, ap, ◌∙◌}
use mathlib.Core.Logic.{◌≢◌}
use mathlib.Core.Bool.{true, false, cond}
use mathlib.Core.List.{List, [], ◌∷◌}
use native.Mathlib.Omega.{arith}
use native.Mathlib.Decide.{ℕ_discrete}
use native.Mathlib.Nat.{zero-add}
use lib.Dec.{eqb}
use lib.ListN.{get_or, length}
use borrow.Author.Tests.{eqb-true}
use Rattle.lists.proofs.Tests.{and_left, and_right, both, by_test}
use Rattle.trace.specs.Trace.{Entry, answers_waits, is_accepted, tells_to_wait, wants_by}
use Rattle.report.specs.declared.Report.{Report}
use Rattle.report.specs.declared.Row.{Row}
use Rattle.report.specs.Rows.{empty_row, joined}
use Rattle.report.specs.Growth.{grown, grown_from, lane_waits, tells_any, wait_row, waits_told}
use Rattle.report.proofs.Rows.{empty_joined, joined_assoc, joined_comm, joined_swap, row_eq}

-- ---- a call tells the lane that makes it, and no other
pub told_is_caller : (i : ℕ) (e : Entry) → tells_to_wait i e ≡ true → e.lane ≡ i
told_is_caller i e t = eqb-true e.lane i (and_right (is_accepted 0x02 e) (eqb e.lane i) (and_left (wants_by i e) (answers_waits e) t))

pub own_lane_told : (i : ℕ) (e : Entry) → tells_to_wait i e ≡ true → tells_any e ≡ true
own_lane_told i e t = ap (λ (k : ℕ). tells_to_wait k e) (told_is_caller i e t) ∙ t

abbrev pub row_for : Report → ℕ → Row
row_for report i = get_or report.lane i empty_row

-- ---- each row
grown_from_lem : (rows : List Row) (first i : ℕ) (es : List Entry) → i < length rows → get_or (grown_from first rows es) i empty_row ≡ joined (get_or rows i empty_row) (lane_waits (first + i) es)
unfolding grown_from
grown_from_lem [] first i es h = absurd (omega arith)
grown_from_lem (r ∷ rows) first zero es h = let e : first + 0 ≡ first = omega arith in rw e
grown_from_lem (r ∷ rows) first (suc i) es h = let e : first + suc i ≡ suc first + i = omega arith in rw e (grown_from_lem rows (suc first) i es (omega arith))

pub from_length : (rows : List Row) (first : ℕ) (es : List Entry) → length (grown_from first rows es) ≡ length rows
unfolding grown_from
from_length [] first es = refl
from_length (r ∷ rows) first es = ap suc (from_length rows (suc first) es)

pub lane_row_grows : (report : Report) (es : List Entry) (i : ℕ) → i < length report.lane → row_for (grown report es) i ≡ joined (row_for report i) (lane_waits i es)
lane_row_grows report es i h = rw (zero-add i) at (grown_from_lem report.lane 0 i es h)

-- rows joined to one, and the waits of `n` lanes from a first one on
unfoldable pub joined_rows : List Row → Row
joined_rows [] = empty_row
joined_rows (r ∷ rows) = joined r (joined_rows rows)

unfoldable pub lanes_waits : ℕ → ℕ → List Entry → Row
lanes_waits first zero es = empty_row
lanes_waits first (suc n) es = joined (lane_waits first es) (lanes_waits (suc first) n es)

-- ---- one call tells one lane
module _ (e : Entry) (later : List Entry) where
  lane_untold : (i : ℕ) → tells_to_wait i e ≡ false → lane_waits i (e ∷ later) ≡ lane_waits i later
  unfolding waits_told
  lane_untold i f = rw f (empty_joined (lane_waits i later))

  lane_told : (i : ℕ) → tells_to_wait i e ≡ true → lane_waits i (e ∷ later) ≡ joined (wait_row e.lane later) (lane_waits i later)
  unfolding waits_told
  lane_told i t = rw t

  lanes_untold : (first n : ℕ) → ((i : ℕ) → first ≤ i → tells_to_wait i e ≡ false) → lanes_waits first n (e ∷ later) ≡ lanes_waits first n later
  unfolding lanes_waits
  lanes_untold first zero f = refl
  lanes_untold first (suc n) f = rw (lane_untold first (f first (omega arith)), lanes_untold (suc first) n (λ i h. f i (omega arith)))

  lanes_told : (first n : ℕ) → tells_to_wait e.lane e ≡ true → first ≤ e.lane → e.lane < first + n → lanes_waits first n (e ∷ later) ≡ joined (wait_row e.lane later) (lanes_waits first n later)
  unfolding lanes_waits
  lanes_told first zero t low high = absurd (omega arith)
  lanes_told first (suc n) t low high =
      elim (ℕ_discrete e.lane first) [
        | yes z ↦
            rw (lane_told first (ap (λ (k : ℕ). tells_to_wait k e) (sym z) ∙ t), lanes_untold (suc first) n (λ i h. other i (λ y. absurd (omega arith))))
            (joined_assoc (wait_row e.lane later) (lane_waits first later) (lanes_waits (suc first) n later))
        | no z ↦
            rw (lane_untold first (other first z), lanes_told (suc first) n t (omega arith) (omega arith))
            (joined_swap (lane_waits first later) (wait_row e.lane later) (lanes_waits (suc first) n later))
      ]
    where
      other : (i : ℕ) → e.lane ≢ i → tells_to_wait i e ≡ false
      other i ne = by_test (tells_to_wait i e) (λ u. absurd (ne (told_is_caller i e u))) (λ u. u)

  -- what it adds to all lanes together, of which its own is one
  pub call_adds : (n : ℕ) → (tells_any e ≡ true → e.lane < n) → lanes_waits 0 n (e ∷ later) ≡ joined (cond (tells_any e) (wait_row e.lane later) empty_row) (lanes_waits 0 n later)
  call_adds n inside =
      by_test (tells_any e)
      (λ t. rw t (lanes_told 0 n t (omega arith) (omega (arith, inside t))))
      (λ f. rw f (lanes_untold 0 n (λ i h. by_test (tells_to_wait i e) (λ u. both (own_lane_told i e u) f) (λ u. u)) ∙ sym (empty_joined (lanes_waits 0 n later))))

-- ---- over a list of calls
pub no_lanes_wait : (first n : ℕ) → lanes_waits first n [] ≡ empty_row
unfolding lanes_waits waits_told
no_lanes_wait first zero = refl
no_lanes_wait first (suc n) = rw (no_lanes_wait (suc first) n)

-- rows that each grow by their lane's waits
pub rows_grow : (rows : List Row) (first : ℕ) (es : List Entry) → joined_rows (grown_from first rows es) ≡ joined (joined_rows rows) (lanes_waits first (length rows) es)
unfolding joined_rows grown_from lanes_waits
rows_grow [] first es = refl
rows_grow (r ∷ rows) first es =
    rw (rows_grow rows (suc first) es)
    (row_eq (omega arith) (omega arith) (omega arith) (omega arith))

-- one lane more
pub lanes_more : (first n : ℕ) (es : List Entry) → lanes_waits first (suc n) es ≡ joined (lanes_waits first n es) (lane_waits (first + n) es)
unfolding lanes_waits
lanes_more first zero es = let e : first + 0 ≡ first = omega arith in rw e (joined_comm (lane_waits first es) empty_row)
lanes_more first (suc n) es =
    let e : first + suc n ≡ suc first + n = omega arith in
    rw e (ap (joined (lane_waits first es)) (lanes_more (suc first) n es) ∙ sym (joined_assoc (lane_waits first es) (lanes_waits (suc first) n es) (lane_waits (suc first + n) es)))
