-- A trace shows the answers and the states of the run, and its steps one after the other print it.
use Rattle.std.proofs.Common.{Some, None, Ok, Err}
use Prim.Native.Nat.{ℕ, zero, suc, ◌+◌, ◌≤◌, ◌<◌}
use mathlib.Core.Path.{◌≡◌, refl, sym, ap, ◌∙◌}
use mathlib.Core.Bool.{true, cond}
use mathlib.Core.List.{List, [], ◌∷◌, ◌++◌, map, append_assoc, append-nil}
use native.Mathlib.Nat.{le_of_suc-le-suc, not-suc-le-zero, zero-add}
use native.Mathlib.Omega.{arith}
use lib.ListN.{get_or, get_or-replicate, length, replicate, take}
use lib.Seq.{take-nil}
use Rattle.lists.proofs.Tests.{by_test}
use Rattle.line.specs.Line.{unopened}
use Rattle.line.specs.Sound.{sound}
use Rattle.event.specs.ReadWrite.{Reading, event_read, read_at}
use Rattle.event.specs.Refusal.{number_of}
use Rattle.steps.specs.Meets.{state_of}
use Rattle.steps.specs.State.{State, fresh}
use Rattle.steps.specs.Step.{call_event}
use Rattle.steps.specs.declared.Answer.{Answer}
use Rattle.printout.specs.Run.{Ran, ends_run, on_reading, run, run_on}
use Rattle.event_text.specs.Reasons.{last_reason}
use Rattle.trace_text.specs.TraceLine.{read_words, trace_line}
use Rattle.trace_text.specs.Trace.{Seen, end_text, how_many, last_of, legend, on_read, seen_by, seen_on, trace_lines, trace_text}
use Rattle.trace_text.specs.Steps.{count_in, onwards, start_of, stepped_by, steps_text}
use Rattle.trace_text.specs.declared.Tracing.{Tracing}
use Rattle.trace_text.proofs.Tallies.{counts_after, end_same, tallied}

-- ---- what a trace shows is the run
abbrev answers_of : List Seen → List Answer
answers_of seen = map (λ (s : Seen). s.answer) seen

-- a list of events seen and a run: the same answers, and the same left
record Shows (x : State) (seen : List Seen) (r : Ran) : Type 0 where
  answers : answers_of seen ≡ r.answers
  after : last_of x seen ≡ r.after

shows_reading : (x : State) (at : ℕ) (later : State → ℕ → List Seen) (rest : State → ℕ → Ran) → ((y : State) (next : ℕ) → Shows y (later y next) (rest y next))
    → (reading : Reading) → Shows x (on_read x at reading later) (on_reading x reading rest)
shows_reading x at later rest same (Ok (Some (e, next))) =
    let r = call_event x e in
    let on = same r.after next.at in
    by_test (ends_run r.answer)
    (λ t. record { answers = rw t; after = rw t })
    (λ f. record { answers = rw f (ap (λ (as' : List Answer). r.answer ∷ as') on.answers); after = rw f on.after })
shows_reading x at later rest same (Ok None) = record { answers = refl; after = refl }
shows_reading x at later rest same (Err k) = record { answers = refl; after = refl }

shows_on : (most : ℕ) (x : State) (sheet : List ℕ) (at : ℕ) → Shows x (seen_on most x sheet at) (run_on most x sheet at)
unfolding seen_on run_on
shows_on zero x sheet at = record { answers = refl; after = refl }
shows_on (suc most) x sheet at =
    shows_reading x at (λ (y : State) (next : ℕ). seen_on most y sheet next) (λ (y : State) (next : ℕ). run_on most y sheet next) (λ y next. shows_on most y sheet next) (read_at sheet at)

first_read : (x : State) (at k : ℕ) (later fewer : State → ℕ → List Seen) → ((y : State) (next : ℕ) → take k (later y next) ≡ fewer y next)
    → (reading : Reading) → take (suc k) (on_read x at reading later) ≡ on_read x at reading fewer
first_read x at k later fewer same (Ok (Some (e, next))) =
    let r = call_event x e in
    let one = seen_by r.after at (event_read e next) r.answer in
    by_test (ends_run r.answer)
    (λ t. rw t (ap (λ (ss : List Seen). one ∷ ss) (take-nil k)))
    (λ f. rw f (ap (λ (ss : List Seen). one ∷ ss) (same r.after next.at)))
first_read x at k later fewer same (Ok None) = refl
first_read x at k later fewer same (Err j) = ap (λ (ss : List Seen). seen_by x at (Err j) (Answer.Refused (number_of j)) ∷ ss) (take-nil k)

-- the events seen in a shorter run are the first of those seen in a longer one
first_seen : (k n : ℕ) → k ≤ n → (x : State) (sheet : List ℕ) (at : ℕ) → take k (seen_on n x sheet at) ≡ seen_on k x sheet at
unfolding seen_on
first_seen zero n h x sheet at = refl
first_seen (suc k) zero h x sheet at = absurd (not-suc-le-zero h)
first_seen (suc k) (suc n) h x sheet at =
    first_read x at k (λ (y : State) (next : ℕ). seen_on n y sheet next) (λ (y : State) (next : ℕ). seen_on k y sheet next)
    (λ y next. first_seen k n (le_of_suc-le-suc h) y sheet next) (read_at sheet at)

module _ (x : State) (sheet : List ℕ) where
  -- the line and the book after the k-th event that is shown are those after k events of the run
  pub trace_states : (k : ℕ) → k ≤ length sheet → last_of x (take k (seen_on (length sheet) x sheet 0)) ≡ (run_on k x sheet 0).after
  trace_states k h = ap (last_of x) (first_seen k (length sheet) h x sheet 0) ∙ (shows_on k x sheet 0).after

  pub trace_answers : sound x.line (length x.book) ≡ true → answers_of (seen_on (length sheet) x sheet 0) ≡ (run x sheet).answers
  unfolding run
  trace_answers ok = rw ok (shows_on (length sheet) x sheet 0).answers

  pub trace_after : sound x.line (length x.book) ≡ true → last_of x (seen_on (length sheet) x sheet 0) ≡ (run x sheet).after
  unfolding run
  trace_after ok = rw ok (shows_on (length sheet) x sheet 0).after

-- ---- the steps print the trace
-- what is left of a trace from where it stands, with the counts so far
abbrev left_text : ℕ → List ℕ → State → List Seen → List ℕ
left_text number counts x seen = trace_lines number seen ++ end_text (last_of x seen).line (λ (k : ℕ). get_or (counts_after (answers_of seen) counts) k 0)

-- a line that no other follows
last_line : (line end : List ℕ) → line ++ end ≡ (line ++ []) ++ end
last_line line end = ap (λ (text : List ℕ). text ++ end) (sym (append-nil line))

-- one step, and then what is left
step_reading : (from : Tracing) (book : List ℕ) (rest : Tracing → List ℕ → List ℕ) (later : State → ℕ → List Seen)
    → ((t : Tracing) (b : List ℕ) → rest t b ≡ left_text t.number t.counts (state_of t.line b) (later (state_of t.line b) t.at))
    → (reading : Reading) → (let s = stepped_by from book reading in s.text ++ cond s.more (rest s.next s.book) (end_text s.next.line (count_in s.next)))
    ≡ left_text from.number from.counts (state_of from.line book) (on_read (state_of from.line book) from.at reading later)
unfolding trace_lines
step_reading from book rest later same (Ok (Some (e, next))) =
    let x = state_of from.line book in
    let r = call_event x e in
    let line = trace_line from.number (read_words from.at (event_read e next)) r.answer r.after.line in
    let on = onwards from r.answer r.after.line next.at in
    let numbered : from.number + 1 ≡ suc from.number = omega arith in
    let left = same on r.after.book ∙ ap (λ (n : ℕ). left_text n on.counts r.after (later r.after next.at)) numbered in
    by_test (ends_run r.answer)
    (λ t. rw t (last_line line _))
    (λ f. rw f (ap (λ (text : List ℕ). line ++ text) left ∙ sym (append_assoc line _ _)))
step_reading from book rest later same (Ok None) = refl
step_reading from book rest later same (Err k) =
    last_line (trace_line from.number (read_words from.at (Err k)) (Answer.Refused (number_of k)) from.line) _

steps_on : (most : ℕ) (from : Tracing) (book sheet : List ℕ)
    → steps_text most from book sheet ≡ left_text from.number from.counts (state_of from.line book) (seen_on most (state_of from.line book) sheet from.at)
unfolding steps_text seen_on trace_lines
steps_on zero from book sheet = refl
steps_on (suc most) from book sheet =
    step_reading from book (λ (t : Tracing) (b : List ℕ). steps_text most t b sheet) (λ (y : State) (next : ℕ). seen_on most y sheet next) (λ t b. steps_on most t b sheet) (read_at sheet from.at)

-- from the start, whatever the lent book held
pub steps_print : (book sheet : List ℕ) → legend ++ steps_text (length sheet) start_of book sheet ≡ trace_text (fresh book) sheet
steps_print book sheet =
    let seen = seen_on (length sheet) (fresh book) sheet 0 in
    let counts : (k : ℕ) → k < last_reason + 1 → get_or (counts_after (answers_of seen) (replicate (last_reason + 1) 0)) k 0 ≡ how_many (answers_of seen) k =
    λ k h. tallied (answers_of seen) (replicate (last_reason + 1) 0) k h ∙ rw (get_or-replicate {A = ℕ} (last_reason + 1) k 0 0 h) (zero-add _) in
    ap (λ (text : List ℕ). legend ++ text) (steps_on (length sheet) start_of book sheet ∙ ap (λ (text : List ℕ). trace_lines 0 seen ++ text) (end_same _ _ counts (last_of (fresh book) seen).line))

-- ---- from an unopened line, as the program runs a sheet
unopened_sound : (n : ℕ) → sound unopened n ≡ true
unfolding sound
unopened_sound n = refl

pub fresh_answers : (book sheet : List ℕ) → answers_of (seen_on (length sheet) (fresh book) sheet 0) ≡ (run (fresh book) sheet).answers
fresh_answers book sheet = trace_answers (fresh book) sheet (unopened_sound (length book))

pub fresh_after : (book sheet : List ℕ) → last_of (fresh book) (seen_on (length sheet) (fresh book) sheet 0) ≡ (run (fresh book) sheet).after
fresh_after book sheet = trace_after (fresh book) sheet (unopened_sound (length book))
