-- Texts stored one after the other, by their index: the refusals by number, the lanes.
use Prim.Native.Nat.{ℕ, suc, ◌+◌, ◌-◌, ◌*◌, ◌≤◌, ◌<◌}
use mathlib.Core.Path.{◌≡◌, refl, sym, ◌∙◌}
use mathlib.Core.List.{List, [], ◌∷◌, ◌++◌, append_assoc, append-nil}
use native.Mathlib.Nat.{mul-suc}
use native.Mathlib.Omega.{arith}
use lib.ListN.{length}
use borrow.Author.Rules.{rules}
use borrow.Author.Tests.{ne_eqb}
use Rattle.number_text.specs.Stored.{Stored}
use Rattle.number_text.proofs.Stores.{and_then, stored_length}
use Rattle.printout.specs.Print.{decimal, words}
use Rattle.trace_text.specs.Trace.{refused_line, texts_from}
use Rattle.trace_text.specs.TraceLine.{refusal_words}

-- the texts before index k are stored, each of at most `step` bytes, and those from k on make up the rest
pub record SoFar (f : ℕ → List ℕ) (first total step : ℕ) (before : List ℕ) (at : ℕ) (after : List ℕ) (end k : ℕ) : Type 0 where
  pub text : List ℕ
  pub stored : Stored text before at after end
  pub rest : text ++ texts_from f k (first + total - k) ≡ texts_from f first total
  pub short : end ≤ at + step * (k - first)
  pub some : first ≤ k
  pub most : k ≤ first + total
  pub same_length : length after ≡ length before

module _ (f : ℕ → List ℕ) (first total step : ℕ) (before : List ℕ) (at : ℕ) where
  pub none_yet : SoFar f first total step before at before at first
  none_yet =
      let all : first + total - first ≡ total = omega arith in
      record { text = []; stored = record { bytes = refl; ends = omega arith }; rest = rw all; short = omega arith; some = omega arith; most = omega arith; same_length = refl }

  pub one_more : {after later : List ℕ} {end next : ℕ} (k : ℕ) → SoFar f first total step before at after end k → k < first + total → Stored (f k) after end later next → next ≤ end + step
      → SoFar f first total step before at later next (k + 1)
  unfolding texts_from
  one_more k s below line short =
      let left : first + total - k ≡ suc (first + total - suc k) = omega (arith, below) in
      let next : k + 1 ≡ suc k = omega arith in
      let rest : s.text ++ texts_from f k (suc (first + total - suc k)) ≡ texts_from f first total = rw left at s.rest in
      let up : k + 1 - first ≡ suc (k - first) = omega (arith, s.some) in
      record {
        text = s.text ++ f k;
        stored = and_then s.stored line;
        rest = append_assoc s.text (f k) (texts_from f (k + 1) (first + total - (k + 1))) ∙ rw next rest;
        short = rw (up, mul-suc step (k - first)) (omega (arith, s.short, short));
        some = omega (arith, s.some);
        most = omega (arith, below);
        same_length = stored_length line ∙ s.same_length;
      }

  pub all_stored : {after : List ℕ} {end : ℕ} (k : ℕ) → SoFar f first total step before at after end k → first + total ≤ k → Stored (texts_from f first total) before at after end
  unfolding texts_from
  all_stored k s past =
      let none : first + total - k ≡ 0 = omega (arith, past) in
      let whole : s.text ≡ texts_from f first total = sym (append-nil s.text) ∙ rw none at s.rest in
      rw (← whole) s.stored

-- a count that is not 0, and the refusal after it
pub refused_stored : (refusal count : ℕ) {before middle after : List ℕ} {at seam end : ℕ} → 0 < count → Stored (decimal count ++ 32 ∷ []) before at middle seam → Stored (words (refusal_words refusal)) middle seam after end
    → Stored (refused_line refusal count) before at after end
unfolding words
refused_stored refusal count some a b = rw (ne_eqb count 0 (λ z. omega (arith, z))) (search (and_then, rules))
