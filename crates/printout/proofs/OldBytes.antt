-- Nothing old shows: over two lent books of one length, whatever bytes they hold, a sheet gets the same answers and prints the same text.
use Rattle.std.specs.Prelude.{Option, Some, None, Ok, Err}
use Prim.Native.Nat.{ℕ, zero, suc, ◌+◌, ◌≤◌}
use mathlib.Core.Path.{◌≡◌, refl, sym, ap, ◌∙◌, subst}
use mathlib.Core.Bool.{Bool, true, false, cond}
use mathlib.Core.List.{List, [], ◌∷◌, ◌++◌, map}
use native.Mathlib.Omega.{arith}
use native.Mathlib.Decide.{dec_lt}
use native.Mathlib.Nat.{suc-add, zero-add}
use lib.ListN.{drop, length, length-append, length-drop, length-replicate, replicate, set, take}
use lib.Seq.{length-sets, sets, take_at, take-nil, take-set-le, take-set-lt, take-take}
use lib.Dec.{eqb, leb}
use borrow.Author.Tests.{eqb-true, le-leb, leb-true, not-false}
use Rattle.limits.specs.Limits.{most_capacity, most_sheet}
use Rattle.lists.specs.Lists.{some_pass}
use Rattle.lists.proofs.Tests.{and_left, and_right, by_test}
use Rattle.view.specs.View.{position_of, record_end}
use Rattle.view.specs.declared.Place.{Place}
use Rattle.line.specs.declared.Line.{Line}
use Rattle.line.specs.Line.{phase_at, place_in}
use Rattle.line.specs.Sound.{numbers_ok, sound, unopened_numbers}
use Rattle.line.proofs.Facts.{open_numbers_lem}
use Rattle.waitlist.specs.NextLane.{next_lane}
use Rattle.event.specs.BigEndian.{big_endian}
use Rattle.event.specs.Event.{Call, cut_short, given}
use Rattle.event.specs.ReadWrite.{Reading, read_at}
use Rattle.event.specs.declared.Event.{Event}
use Rattle.steps.specs.Effects.{Search, all_entered, entered, freed, next_of, others_down, record_at, taken, wake}
use Rattle.steps.specs.Refusals.{Reason, reasons}
use Rattle.steps.specs.State.{Result, State, fresh, leaves}
use Rattle.steps.specs.Step.{effect_of, step_by, unless_refused}
use Rattle.steps.specs.declared.Answer.{Answer}
use Rattle.steps.proofs.CheckingOrder.{applying, none_applies}
use Rattle.printout.specs.Print.{linebook, printed}
use Rattle.printout.specs.Run.{Ran, answered, ends_run, on_reading, run, run_on}

-- ---- what is compared
-- one line, and books of one length that hold the same bytes below the capacity
pub record Agree (x y : State) : Type 0 where
  pub line : x.line ≡ y.line
  pub long : length x.book ≡ length y.book
  pub bytes : take x.line.capacity x.book ≡ take x.line.capacity y.book

-- one answer, and states that agree
pub record SameStep (r s : Result) : Type 0 where
  pub answer : r.answer ≡ s.answer
  pub after : Agree r.after s.after

-- the same answers, and states that agree
pub record SameRun (r s : Ran) : Type 0 where
  pub answers : r.answers ≡ s.answers
  pub after : Agree r.after s.after

-- ---- lists with the same first n elements
-- a part of the front is a front of the rest
cut : (p m : ℕ) (l : List ℕ) → drop p (take (p + m) l) ≡ take m (drop p l)
cut zero m l = rw zero-add
cut (suc p) m [] = rw (suc-add, take-nil)
cut (suc p) m (a ∷ l) = rw suc-add (cut p m l)

module _ (n : ℕ) where
  -- the parts that end at or below n are the same
  same_part : (p m : ℕ) (a b : List ℕ) → p + m ≤ n → take n a ≡ take n b → take m (drop p a) ≡ take m (drop p b)
  same_part p m a b h e = rw (← cut p m a, ← cut p m b, ← take-take (p + m) n a h, ← take-take (p + m) n b h, e)

  -- and the first n stay the same where the same is stored in both
  same_set : (a b : List ℕ) (i v : ℕ) → take n a ≡ take n b → take n (set a i v) ≡ take n (set b i v)
  same_set a b i v e =
      elim (dec_lt i n) [
        | yes h ↦ rw (take-set-lt n a i v h, take-set-lt n b i v h, e)
        | no h ↦ let f : n ≤ i = omega arith in rw (take-set-le n a i v f, take-set-le n b i v f, e)
      ]

  same_sets : (vs a b : List ℕ) (i : ℕ) → take n a ≡ take n b → take n (sets a i vs) ≡ take n (sets b i vs)
  same_sets [] a b i e = e
  same_sets (v ∷ vs) a b i e = same_sets vs (set a i v) (set b i v) (suc i) (same_set a b i v e)

-- ---- a step
-- two choices by one test
both_ways : {A : Type 0} (R : A → A → Type 0) (t u : Bool) {x y v w : A} → t ≡ u → R x v → (u ≡ false → R y w) → R (cond t x y) (cond u v w)
both_ways R t u e p q = by_test u (λ k. rw (e, k) p) (λ k. rw (e, k) (q k))

-- a sound line's size is at most its capacity, open or not
size_fits : (l : Line) (buffer : ℕ) → sound l buffer ≡ true → l.size ≤ l.capacity
unfolding sound
size_fits l buffer e =
    let n : numbers_ok l buffer ≡ true = and_left (numbers_ok l buffer) _ e in
    by_test (eqb l.lanes 0)
    (λ z. let u : unopened_numbers l ≡ true = rw z at n in
    let s = and_left (eqb l.size 0) _ (and_right (eqb l.capacity 0) _ u) in
    omega (arith, eqb-true l.size 0 s))
    (λ z. (open_numbers_lem l buffer (rw z at n)).sized)

-- a wake leaves the capacity
wake_capacity : (l : Line) (w : Option ℕ) → (wake l w).capacity ≡ l.capacity
wake_capacity l (Some i) = refl
wake_capacity l None = refl

-- a line with a book
abbrev lent : Line → List ℕ → State
lent l book = record { line = l; book = book }

module _ (l : Line) (a b : List ℕ) (long : length a ≡ length b) (bytes : take l.capacity a ≡ take l.capacity b) where
  -- a call that leaves the books as they are
  same_books : (answer : Answer) (m : Line) → m.capacity ≡ l.capacity → SameStep (leaves answer m a) (leaves answer m b)
  same_books answer m e = record { answer = refl; after = record { line = refl; long = long; bytes = rw e bytes } }

  -- a record that is stored
  same_stored : (answer : Answer) (m : Line) (i : ℕ) (vs : List ℕ) → m.capacity ≡ l.capacity → SameStep (leaves answer m (sets a i vs)) (leaves answer m (sets b i vs))
  same_stored answer m i vs e =
      record { answer = refl; after = record { line = refl; long = simp length-sets long; bytes = rw e (same_sets l.capacity vs a b i bytes) } }

  -- an opening zeroes both books up to the new capacity
  same_opened : (answer : Answer) (m : Line) → SameStep (leaves answer m (replicate m.capacity 0 ++ drop m.capacity a)) (leaves answer m (replicate m.capacity 0 ++ drop m.capacity b))
  same_opened answer m =
      let c = m.capacity in
      record {
        answer = refl;
        after =
            record {
              line = refl;
              long = simp (length-append, length-drop, long);
              bytes = take_at (replicate c 0) (drop c a) c (length-replicate c 0) ∙ sym (take_at (replicate c 0) (drop c b) c (length-replicate c 0));
            };
      }

  -- the sixteen reasons look at the line and the length of the book alone
  same_tests : (c : Call) → map (applying (lent l a) c) reasons ≡ map (applying (lent l b) c) reasons
  same_tests (given e) = rw long
  same_tests cut_short = rw long

  module _ (fits : l.size ≤ l.capacity) (search : Search) where
    -- a record that is read ends within the size
    same_record : (k : Place) → record_at (lent l a) k ≡ record_at (lent l b) k
    same_record k =
        by_test (leb (record_end l.view k) l.size)
        (λ t. let h = leb-true (record_end l.view k) l.size t in
        rw (t, same_part l.capacity (position_of l.view k).0 8 a b (omega arith) bytes))
        (λ f. rw f)

    -- what a call does, refused or not
    same_effect : (c : Call) → SameStep (effect_of search (lent l a) c) (effect_of search (lent l b) c)
    same_effect (given (Event.Open lanes capacity)) = same_opened _ _
    same_effect (given (Event.Want i purpose)) = both_ways SameStep (others_down l i) _ refl (same_books _ _ refl) (λ k. same_books _ _ refl)
    same_effect (given (Event.Receive i)) = same_books _ _ refl
    same_effect (given (Event.Take i c)) = same_books _ _ (wake_capacity (taken l i c (phase_at l i)) (next_of search (taken l i c (phase_at l i)) i))
    same_effect (given (Event.Write i content)) = same_stored _ _ (position_of l.view (place_in (phase_at l i))).0 (big_endian 8 content) refl
    same_effect (given (Event.Read i)) = rw (same_record (place_in (phase_at l i))) (same_books _ _ refl)
    same_effect (given (Event.Put i k content)) = same_stored _ _ (position_of l.view k).0 (big_endian 8 content) refl
    same_effect (given (Event.Look i k)) = rw (same_record k) (same_books _ _ refl)
    same_effect (given (Event.Free i)) = same_books _ _ (wake_capacity (freed l i) (next_of search (freed l i) i))
    same_effect (given (Event.Enter i c)) = both_ways SameStep (all_entered l (entered l i c)) _ refl (same_books _ _ refl) (λ k. same_books _ _ refl)
    same_effect (given (Event.View displacement extent used blocks)) = same_books _ _ refl
    same_effect (given (Event.Seek whence offset)) = same_books _ _ refl
    same_effect (given Event.Unlisted) = same_books _ _ refl
    same_effect cut_short = same_books _ _ refl

  -- through a list of reasons whose tests are the same
  same_unless : (qs : List Reason) (c : Call) (r s : Result) → map (applying (lent l a) c) qs ≡ map (applying (lent l b) c) qs
      → (some_pass (applying (lent l b) c) qs ≡ false → SameStep r s) → SameStep (unless_refused qs (lent l a) c r) (unless_refused qs (lent l b) c s)
  same_unless [] c r s e m = m refl
  same_unless (q ∷ qs) c r s e m =
      both_ways SameStep (q.applies (lent l a) c) (q.applies (lent l b) c) (cc) (same_books _ _ refl) (λ f. same_unless qs c r s (cc) (λ n. m (rw f n)))

  same_lent : (search : Search) (c : Call) → SameStep (step_by search (lent l a) c) (step_by search (lent l b) c)
  unfolding step_by
  same_lent search c =
      same_unless reasons c _ _ (same_tests c)
      (λ n. same_effect (size_fits l (length b) (not-false _ (none_applies (lent l b) c n 1))) search c)

-- states that agree answer every call alike, refused or not, and agree after it; they need not be sound, since a line that is not refuses all calls
pub same_step : (search : Search) (x y : State) (c : Call) → Agree x y → SameStep (step_by search x c) (step_by search y c)
same_step search x y c A =
    subst (λ (l : Line). SameStep (step_by search x c) (step_by search (lent l y.book) c)) A.line (same_lent x.line x.book y.book A.long A.bytes search c)

-- ---- a run
same_answered : (answer other : Answer) (r s : Ran) → answer ≡ other → SameRun r s → SameRun (answered answer r) (answered other s)
same_answered answer other r s e S = record { answers = cc; after = S.after }

same_reading : (x y : State) (reading : Reading) (rest : State → ℕ → Ran) → Agree x y → ((u v : State) (next : ℕ) → Agree u v → SameRun (rest u next) (rest v next))
    → SameRun (on_reading x reading rest) (on_reading y reading rest)
same_reading x y (Ok (Some (e, next))) rest A f =
    let S = same_step next_lane x y (given e) A in
    same_answered _ _ _ _ S.answer
    (both_ways SameRun _ _ (ap ends_run S.answer) (record { answers = refl; after = S.after }) (λ k. f _ _ next.at S.after))
same_reading x y (Ok None) rest A f = record { answers = refl; after = A }
same_reading x y (Err k) rest A f = record { answers = refl; after = A }

same_run_on : (most : ℕ) (x y : State) (sheet : List ℕ) (at : ℕ) → Agree x y → SameRun (run_on most x sheet at) (run_on most y sheet at)
unfolding run_on
same_run_on zero x y sheet at A = record { answers = refl; after = A }
same_run_on (suc most) x y sheet at A = same_reading x y (read_at sheet at) (λ (u : State) (next : ℕ). run_on most u sheet next) A (λ u v next B. same_run_on most u v sheet next B)

-- and so does the run of a sheet
pub same_run : (x y : State) (sheet : List ℕ) → Agree x y → SameRun (run x sheet) (run y sheet)
unfolding run
same_run x y sheet A =
    let e : sound x.line (length x.book) ≡ sound y.line (length y.book) = rw (A.line, A.long) in
    both_ways SameRun _ _ e (same_run_on (length sheet) x y sheet 0 A) (λ k. record { answers = refl; after = A })

-- an unopened line has capacity 0: no byte of the two books need be the same
pub nothing_old : (a b : List ℕ) → length a ≡ length b → (sheet : List ℕ) → SameRun (run (fresh a) sheet) (run (fresh b) sheet)
nothing_old a b e sheet = same_run (fresh a) (fresh b) sheet (record { line = refl; long = e; bytes = refl })

-- and so the same text
pub same_text : (a b : List ℕ) → length a ≡ length b → (sheet : List ℕ) → printed (run (fresh a) sheet) ≡ printed (run (fresh b) sheet)
same_text a b e sheet = let S = nothing_old a b e sheet in rw (S.answers, S.after.line)

-- what `linebook` prints is the definition's, whatever its book held
pub linebook_any : (book : List ℕ) → length book ≡ most_capacity → (sheet : List ℕ) → length sheet ≤ most_sheet → printed (run (fresh book) sheet) ≡ linebook sheet
unfolding linebook
linebook_any book e sheet h =
    rw (le-leb (length sheet) most_sheet h) (same_text book (replicate most_capacity 0) (e ∙ sym (length-replicate {A = ℕ} most_capacity 0)) sheet)
