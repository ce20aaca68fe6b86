-- Places as bits of words: how a test of places goes by the words, and what a loop that marks places a word at a time needs.
use Prim.Native.Nat.{ℕ, zero, suc, ◌+◌, ◌-◌, ◌*◌, ◌/◌, ◌%◌, ◌≤◌, ◌<◌, max, min}
use mathlib.Core.Path.{◌≡◌, refl, sym, ap, ◌∙◌}
use mathlib.Core.Logic.{◌⊎◌, inl, inr, ⊎_elim}
use mathlib.Core.Bool.{Bool, true, false, and_assoc, and-true, or-true, ◌&&◌, ◌||◌}
use mathlib.Core.List.{List}
use native.Mathlib.Omega.{arith}
use native.Mathlib.Decide.{ℕ_discrete}
use lib.ListN.{get_or, length, length-set, set}
use lib.Seq.{get_or-set_other, get_or-set_same}
use lib.Bits.{bit_and, bit_or}
use lib.Dec.{eqb, leb}
use borrow.Author.Tests.{eq-eqb, le-leb, leb-true, ne_eqb}
use Rattle.lists.proofs.Parts.{below_or_not}
use Rattle.lists.proofs.Tests.{and_both, and_left, and_right, clash, same_test}
use Rattle.lane_tests.specs.Places.{Marks, all_from, is_clear, is_free, is_outside, mask_of}
use Rattle.lane_tests.proofs.Bits.{and_mask, mask_bit, or_bit}

-- ---- a test of each of several numbers
module _ (p : ℕ → Bool) where
  pub all_at : (k n : ℕ) → all_from p k n ≡ true → (j : ℕ) → k ≤ j → j < k + n → p j ≡ true
  unfolding all_from
  all_at k zero e j h t = absurd (omega arith)
  all_at k (suc n) e j h t =
      ⊎_elim (λ u. all_at (k + 1) n (and_right (p k) (all_from p (k + 1) n) e) j (omega arith) (omega arith))
      (λ u. let same : j ≡ k = omega arith in rw same (and_left (p k) (all_from p (k + 1) n) e))
      (below_or_not k j)

  pub all_for : (k n : ℕ) → ((j : ℕ) → k ≤ j → j < k + n → p j ≡ true) → all_from p k n ≡ true
  unfolding all_from
  all_for k zero f = refl
  all_for k (suc n) f =
      and_both (p k) (all_from p (k + 1) n) (f k (omega arith) (omega arith)) (all_for (k + 1) n (λ j h t. f j (omega arith) (omega arith)))

  -- in two parts
  pub all_split : (k a b : ℕ) → all_from p k (a + b) ≡ (all_from p k a && all_from p (k + a) b)
  all_split k a b =
      same_test (all_from p k (a + b)) (all_from p k a && all_from p (k + a) b)
      (λ e. and_both (all_from p k a) (all_from p (k + a) b) (all_for k a (λ j h t. all_at k (a + b) e j h (omega arith))) (all_for (k + a) b (λ j h t. all_at k (a + b) e j (omega arith) (omega arith))))
      (λ e. all_for k (a + b) (λ j h t.
      ⊎_elim (λ u. all_at k a (and_left (all_from p k a) (all_from p (k + a) b) e) j h u)
      (λ u. all_at (k + a) b (and_right (all_from p k a) (all_from p (k + a) b) e) j u (omega arith))
      (below_or_not j (k + a))))

-- two tests that are the same there
pub all_same : (p q : ℕ → Bool) (k n : ℕ) → ((j : ℕ) → k ≤ j → p j ≡ q j) → all_from p k n ≡ all_from q k n
unfolding all_from
all_same p q k zero f = refl
all_same p q k (suc n) f = rw (f k (omega arith), all_same p q (k + 1) n (λ j h. f j (omega arith)))

-- ---- outside a part, of which one of two comparisons tells
pub either_true : (a b c d : ℕ) → (a ≤ b) ⊎ (c ≤ d) → leb a b || leb c d ≡ true
either_true a b c d = ⊎_elim (λ t. rw (le-leb a b t)) (λ t. rw (le-leb c d t) (or-true (leb a b)))

pub true_either : (a b c d : ℕ) → leb a b || leb c d ≡ true → (a ≤ b) ⊎ (c ≤ d)
true_either a b c d e = go (leb a b) refl e
  where
    go : (p : Bool) → leb a b ≡ p → p || leb c d ≡ true → (a ≤ b) ⊎ (c ≤ d)
    go true f g = inl (leb-true a b f)
    go false f g = inr (leb-true c d g)

same_leb : (a b c d : ℕ) → (a ≤ b → c ≤ d) → (c ≤ d → a ≤ b) → leb a b ≡ leb c d
same_leb a b c d f g = same_test (leb a b) (leb c d) (λ t. le-leb c d (f (leb-true a b t))) (λ t. le-leb a b (g (leb-true c d t)))

-- a place is outside a part of its word where its bit is
outside_word : (i low n k j : ℕ) → k ≡ 64 * i + low → j / 64 ≡ i → is_outside low (low + n) (j % 64) ≡ is_outside k (k + n) j
outside_word i low n k j e f =
    rw (same_leb (low + n) (j % 64) (k + n) j (λ h. omega arith) (λ h. omega arith), same_leb (j % 64 + 1) low (j + 1) k (λ h. omega arith) (λ h. omega arith))

-- outside two parts that meet
outside_join : (start k end j : ℕ) → start ≤ k → k ≤ end → (is_outside start k j && is_outside k end j) ≡ is_outside start end j
outside_join start k end j h t =
    same_test (is_outside start k j && is_outside k end j) (is_outside start end j)
    (λ e. either_true end j (j + 1) start
    (⊎_elim
    (λ u. ⊎_elim (λ v. inl v) (λ v. absurd (omega arith)) (true_either end j (j + 1) k (and_right (is_outside start k j) (is_outside k end j) e)))
    (λ u. inr u)
    (true_either k j (j + 1) start (and_left (is_outside start k j) (is_outside k end j) e))))
    (λ e.
    let out = true_either end j (j + 1) start e in
    and_both (is_outside start k j) (is_outside k end j) (either_true k j (j + 1) start (⊎_elim (λ u. inl (omega arith)) (λ u. inr u) out))
    (either_true end j (j + 1) k (⊎_elim (λ u. inl u) (λ u. inr (omega arith)) out)))

-- ---- the places of one word
word_free : (words : List ℕ) (k i low n : ℕ) → k ≡ 64 * i + low → low + n ≤ 64 → all_from (is_free words) k n ≡ all_from (is_clear (get_or words i 0)) low n
unfolding all_from
word_free words k i low zero e h = refl
word_free words k i low (suc n) e h =
    let word : k / 64 ≡ i = omega arith in
    let bit : k % 64 ≡ low = omega arith in
    rw (word, bit, word_free words (k + 1) i (low + 1) n (omega arith) (omega arith))

module _ (words : List ℕ) (k n : ℕ) (fits : k % 64 + n ≤ 64) where
  abbrev pub here : ℕ
  here = get_or words (k / 64) 0

  -- n places from k are free where the mask has no bit in common with their word
  pub mask_free : eqb (bit_and here (mask_of (k % 64) n)) 0 ≡ all_from (is_free words) k n
  mask_free = and_mask here (k % 64) n ∙ sym (word_free words k (k / 64) (k % 64) n (omega arith) fits)

  -- and after the word is joined with the mask no other places are marked
  pub mask_marks : k / 64 < length words → (j : ℕ) → is_free (set words (k / 64) (bit_or here (mask_of (k % 64) n))) j ≡ (is_free words j && is_outside k (k + n) j)
  mask_marks room j = go (ℕ_discrete (j / 64) (k / 64))
    where
      go : Dec (j / 64 ≡ k / 64) → is_free (set words (k / 64) (bit_or here (mask_of (k % 64) n))) j ≡ (is_free words j && is_outside k (k + n) j)
      go (yes e) =
          rw (e, get_or-set_same words (k / 64) (bit_or here (mask_of (k % 64) n)) 0 room, or_bit here (mask_of (k % 64) n) (j % 64), mask_bit (k % 64) n (j % 64), outside_word (k / 64) (k % 64) n k j (omega arith) e)
      go (no e) =
          let out : is_outside k (k + n) j ≡ true = either_true (k + n) j (j + 1) k (⊎_elim (λ u. inr (omega arith)) (λ u. inl (omega arith)) (below_or_not (j / 64) (k / 64))) in
          rw (get_or-set_other words (k / 64) (j / 64) (bit_or here (mask_of (k % 64) n)) 0 e, out) (sym (and-true (is_free words j)))

-- ---- the loop that marks places
-- between two words: what is left is free where all places were, and what was marked is what was passed
pub record Marking (before words : List ℕ) (first count k left : ℕ) : Type 0 where
  pub size : length words ≡ length before
  pub passed : first ≤ k
  pub whole : k + left ≡ first + count
  pub rest : all_from (is_free words) k left ≡ all_from (is_free before) first count
  pub marked : (j : ℕ) → is_free words j ≡ (is_free before j && is_outside first k j)

pub marking_start : (words : List ℕ) (first count : ℕ) → Marking words words first count first count
marking_start words first count =
    record {
      size = refl;
      passed = omega arith;
      whole = refl;
      rest = refl;
      marked = λ j. rw (either_true first j (j + 1) first (⊎_elim (λ u. inr (omega arith)) (λ u. inl u) (below_or_not j first))) (sym (and-true (is_free words j)));
    }

pub marking_end : (before words : List ℕ) (first count k left : ℕ) → Marking before words first count k left → left ≤ 0 → Marks before words first count true
unfolding all_from
marking_end before words first count k left inv h =
    let none : left ≡ 0 = omega arith in
    let end : k ≡ first + count = omega (arith, inv.whole) in
    record { size = inv.size; told = rw none at inv.rest; marked = λ t j. rw end at (inv.marked j) }

module _ (before words : List ℕ) (first count k left n mask : ℕ) (inv : Marking before words first count k left) (n-is : n ≡ min (64 - k % 64) left) (mask_is : mask ≡ mask_of (k % 64) n) where
  abbrev word : ℕ
  word = get_or words (k / 64) 0

  fits : k % 64 + n ≤ 64
  fits = omega arith

  part : all_from (is_free words) k left ≡ (eqb (bit_and word mask) 0 && all_from (is_free words) (k + n) (left - n))
  part =
      let parts : left ≡ n + (left - n) = omega arith in
      let first_part : eqb (bit_and word mask) 0 ≡ all_from (is_free words) k n = rw mask_is (mask_free words k n fits) in
      ap (all_from (is_free words) k) parts ∙ rw first_part (all_split (is_free words) k n (left - n))

  -- a place of the word is marked
  pub marking_stop : (bit_and word mask ≡ 0 → ⊥) → Marks before words first count false
  marking_stop taken =
      record { size = inv.size; told = sym (sym inv.rest ∙ part ∙ rw (ne_eqb (bit_and word mask) 0 taken)); marked = λ t. clash (sym t) }

  -- none is, and the word is joined with the mask
  pub marking_more : k / 64 < length before → bit_and word mask ≡ 0 → Marking before (set words (k / 64) (bit_or word mask)) first count (k + n) (left - n)
  marking_more room clear =
      let after = set words (k / 64) (bit_or word mask) in
      let marks : (j : ℕ) → is_free after j ≡ (is_free words j && is_outside k (k + n) j) = rw mask_is (mask_marks words k n fits (omega (arith, inv.size))) in
      let same : all_from (is_free after) (k + n) (left - n) ≡ all_from (is_free words) (k + n) (left - n) =
      all_same (is_free after) (is_free words) (k + n) (left - n) (λ j h. marks j ∙ rw (either_true (k + n) j (j + 1) k (inl h)) (and-true (is_free words j))) in
      record {
        size = length-set words (k / 64) (bit_or word mask) ∙ inv.size;
        passed = omega (arith, inv.passed);
        whole = omega (arith, inv.whole);
        rest = same ∙ sym (part ∙ rw (eq-eqb (bit_and word mask) 0 clear)) ∙ inv.rest;
        marked = λ j.
            marks j ∙ rw (inv.marked j, and_assoc (is_free before j) (is_outside first k j) (is_outside k (k + n) j), outside_join first k (k + n) j inv.passed (omega arith));
      }

-- ---- the loop over the words of some places
-- where the loop stands before word i: at that word's first place, or at the first place of all, but never past the last
abbrev pub reached : ℕ → ℕ → ℕ → ℕ
reached first count i = min (first + count) (max first (64 * i))

abbrev pub MarkingWords : List ℕ → List ℕ → ℕ → ℕ → ℕ → Type 0
MarkingWords before words first count i = Marking before words first count (reached first count i) (first + count - reached first count i)

pub words_start : (words : List ℕ) (first count : ℕ) → MarkingWords words words first count (first / 64)
words_start words first count =
    let at : reached first count (first / 64) ≡ first = omega arith in
    let left : first + count - first ≡ count = omega arith in
    rw (at, left) (marking_start words first count)

pub words_end : (before words : List ℕ) (first count i : ℕ) → MarkingWords before words first count i → first + count ≤ 64 * i → Marks before words first count true
words_end before words first count i inv h = marking_end before words first count (reached first count i) (first + count - reached first count i) inv (omega arith)

pub none_marked_of : (words : List ℕ) (first count : ℕ) → count ≡ 0 → Marks words words first count true
none_marked_of words first count none = marking_end words words first count first count (marking_start words first count) (omega arith)

module _ (before words : List ℕ) (first count i from to mask : ℕ) (inv : MarkingWords before words first count i) (some : 0 < count) (low : first / 64 ≤ i) (high : 64 * i < first + count) (from_is : from ≡ max first (64 * i)) (to-is : to ≡ min (first + count) (64 * i + 64)) (mask_is : mask ≡ mask_of (from % 64) (to - from)) where
  at : from ≡ reached first count i
  at = omega arith

  word_is : from / 64 ≡ i
  word_is = omega arith

  part_is : to - from ≡ min (64 - from % 64) (first + count - from)
  part_is = omega arith

  moved : Marking before words first count from (first + count - from)
  moved = rw at inv

  pub words_stop : (bit_and (get_or words i 0) mask ≡ 0 → ⊥) → Marks before words first count false
  words_stop taken = marking_stop before words first count from (first + count - from) (to - from) mask moved part_is mask_is (λ e. taken (rw word_is at e))

  pub words_more : i < length before → bit_and (get_or words i 0) mask ≡ 0 → MarkingWords before (set words i (bit_or (get_or words i 0) mask)) first count (i + 1)
  words_more room clear =
      let more = marking_more before words first count from (first + count - from) (to - from) mask moved part_is mask_is (rw word_is room) (rw word_is clear) in
      let next : from + (to - from) ≡ reached first count (i + 1) = omega arith in
      let left : first + count - from - (to - from) ≡ first + count - reached first count (i + 1) = omega arith in
      rw (word_is, next, left) at more
