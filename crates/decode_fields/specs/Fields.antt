-- Fields at an index of a sheet, and what their readers answer. Tied to `read_at` by decode/Bodies: body_read, body_cut, and the contract of decode::read_event.
use Rattle.std.specs.Prelude.{ℕ, Option, Some, None, ◌+◌, cond, List, leb, drop, length}
use Rattle.lists.specs.Lists.{sum_of}
use Rattle.event.specs.Event.{fields_in}

abbrev pub total : List ℕ → ℕ
total lengths = sum_of (λ (n : ℕ). n) lengths

-- ---- what a reader of fields finds: their numbers and the index past them, or that the sheet ends before
pub data Fields : Type 0 where
  values : List ℕ → ℕ → Fields
  short : Fields

unfoldable pub fields_at : List ℕ → List ℕ → ℕ → Fields
fields_at lengths sheet at =
    cond (leb (at + total lengths) (length sheet)) (values (fields_in lengths (drop at sheet)) (at + total lengths)) short

-- ---- what the readers' answers say
-- by the numbers that make up what was read, in order
abbrev pub said : {A : Type 0} → (A → List ℕ) → Option (A × ℕ) → Fields
said numbers (Some p) = values (numbers p.0) p.1
said numbers None = short
