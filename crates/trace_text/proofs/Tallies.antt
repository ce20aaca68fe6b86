-- The counts of a trace: one answer after the other, each number's count is how many answers have it.
use Prim.Native.Nat.{ℕ, zero, suc, ◌+◌, ◌≤◌, ◌<◌}
use mathlib.Core.Path.{◌≡◌, refl, sym, ◌∙◌}
use mathlib.Core.List.{List, [], ◌∷◌}
use native.Mathlib.Omega.{arith}
use lib.Dec.{eqb}
use lib.ListN.{get_or, length, length-set, set}
use lib.Seq.{get_or-set_other, get_or-set_same}
use borrow.Author.Tests.{eqb-false, eqb-true}
use Rattle.lists.specs.Lists.{bit}
use Rattle.lists.proofs.Tests.{by_test}
use Rattle.line.specs.declared.Line.{Line}
use Rattle.steps.specs.declared.Answer.{Answer}
use Rattle.event_text.specs.Reasons.{last_reason}
use Rattle.trace_text.specs.Trace.{end_text, how_many, refusal_of, refused_line, texts_from}
use Rattle.trace_text.specs.Steps.{counted}

-- the counts after answers, one after the other
abbrev pub counts_after : List Answer → List ℕ → List ℕ
counts_after [] counts = counts
counts_after (a ∷ as') counts = counts_after as' (counted a counts)

-- one answer more
one : (r k : ℕ) (counts : List ℕ) → k < length counts → get_or (set counts r (get_or counts r 0 + 1)) k 0 ≡ get_or counts k 0 + bit (eqb r k)
one r k counts h =
    by_test (eqb r k)
    (λ t. let same = eqb-true r k t in rw (t, same) (get_or-set_same counts k (get_or counts k 0 + 1) 0 h))
    (λ f. let other = eqb-false r k f in
    rw f (get_or-set_other counts r k (get_or counts r 0 + 1) 0 (λ e. other (sym e)) ∙ omega arith))

pub tallied : (answers : List Answer) (counts : List ℕ) (k : ℕ) → k < length counts → get_or (counts_after answers counts) k 0 ≡ get_or counts k 0 + how_many answers k
tallied [] counts k h = omega arith
tallied (a ∷ as') counts k h =
    let long : k < length (counted a counts) = rw (length-set counts (refusal_of a)) h in
    tallied as' (counted a counts) k long ∙ omega (arith, one (refusal_of a) k counts h)

-- ---- the end of a trace by the counts
module _ (f g : ℕ → ℕ) (same : (k : ℕ) → k < last_reason + 1 → f k ≡ g k) where
  lines_same : (k more : ℕ) → k + more ≤ last_reason + 1 → texts_from (λ (i : ℕ). refused_line i (f i)) k more ≡ texts_from (λ (i : ℕ). refused_line i (g i)) k more
  unfolding texts_from
  lines_same k zero h = refl
  lines_same k (suc more) h =
      let here = same k (omega (arith, h)) in
      let rest = lines_same (suc k) more (omega (arith, h)) in
      rw (here, rest)

  pub end_same : (l : Line) → end_text l f ≡ end_text l g
  end_same l = rw (same 0 (omega arith), lines_same 1 last_reason (omega arith))
