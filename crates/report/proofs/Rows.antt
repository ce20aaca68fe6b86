-- Rows are joined in any order, and no wait joined to a row leaves it as it is.
use Prim.Native.Nat.{ℕ}
use mathlib.Core.Path.{◌≡◌}
use native.Mathlib.Omega.{arith}
use Rattle.report.specs.declared.Row.{Row}
use Rattle.report.specs.Rows.{empty_row, joined, row}

pub row_eq : {a b c d a' b' c' d' : ℕ} → a ≡ a' → b ≡ b' → c ≡ c' → d ≡ d' → row a b c d ≡ row a' b' c' d'
row_eq p q r s = λ j. row (p j) (q j) (r j) (s j)

pub joined_comm : (a b : Row) → joined a b ≡ joined b a
joined_comm a b = row_eq (omega arith) (omega arith) (omega arith) (omega arith)

pub joined_assoc : (a b c : Row) → joined (joined a b) c ≡ joined a (joined b c)
joined_assoc a b c = row_eq (omega arith) (omega arith) (omega arith) (omega arith)

pub joined_empty : (a : Row) → joined a empty_row ≡ a
joined_empty a = row_eq (omega arith) (omega arith) (omega arith) (omega arith)

pub empty_joined : (a : Row) → joined empty_row a ≡ a
empty_joined a = row_eq (omega arith) (omega arith) (omega arith) (omega arith)

-- the first two change places
pub joined_swap : (a b c : Row) → joined a (joined b c) ≡ joined b (joined a c)
joined_swap a b c = row_eq (omega arith) (omega arith) (omega arith) (omega arith)
