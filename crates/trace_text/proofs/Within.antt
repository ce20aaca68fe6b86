-- A step leaves a trace within its sheet: an event has a byte at least, and no count grows by more than one.
use Prim.Native.Nat.{ℕ, ◌+◌}
use mathlib.Core.Path.{◌≡◌, sym, ◌∙◌}
use mathlib.Core.Bool.{true, false}
use mathlib.Core.List.{List}
use native.Mathlib.Omega.{arith}
use lib.Dec.{leb}
use lib.ListN.{get_or}
use borrow.Author.Tests.{le-leb, leb-true}
use Rattle.lists.specs.Lists.{all_pass}
use Rattle.lists.proofs.Counts.{all_get_d, all_mono, all_set}
use Rattle.lists.proofs.Tests.{clash}
use Rattle.event.specs.ReadWrite.{event_read, read_at}
use Rattle.event.specs.declared.Cursor.{Cursor}
use Rattle.event.specs.declared.Event.{Event}
use Rattle.event.proofs.Lengths.{reads}
use Rattle.steps.specs.Meets.{state_of}
use Rattle.steps.specs.Step.{call_event}
use Rattle.steps.specs.declared.Answer.{Answer}
use Rattle.trace_text.specs.Trace.{refusal_of}
use Rattle.trace_text.specs.Steps.{GoesOn, Within, counted, stepped_by}
use Rattle.trace_text.specs.declared.Traced.{Traced}
use Rattle.trace_text.specs.declared.Tracing.{Tracing}

-- the counts are at most one more than they were
counts_on : (a : Answer) (counts : List ℕ) (n : ℕ) → all_pass (λ (k : ℕ). leb k n) counts ≡ true → all_pass (λ (k : ℕ). leb k (n + 1)) (counted a counts) ≡ true
counts_on a counts n all =
    let one = leb-true (get_or counts (refusal_of a) 0) n (all_get_d (λ (k : ℕ). leb k n) counts (refusal_of a) 0 all (le-leb 0 n (omega arith))) in
    let more = all_mono (λ (k : ℕ). leb k n) (λ (k : ℕ). leb k (n + 1)) (λ k t. le-leb k (n + 1) (omega (arith, leb-true k n t))) counts all in
    all_set (λ (k : ℕ). leb k (n + 1)) counts (refusal_of a) (get_or counts (refusal_of a) 0 + 1) more (le-leb (get_or counts (refusal_of a) 0 + 1) (n + 1) (omega (arith, one)))

-- after an event that was read
pub event_goes_on : (from : Tracing) (sheet : List ℕ) (book : List ℕ) (e : Event) (next : Cursor) (r : Traced) → Within from sheet → read_at sheet from.at ≡ event_read e next
    → r.next ≡ (stepped_by from book (event_read e next)).next → GoesOn from sheet r
event_goes_on from sheet book e next r w read is =
    let moved = reads sheet from.at e next read in
    let on : Within (stepped_by from book (event_read e next)).next sheet =
    record {
      numbered = omega (arith, w.numbered, moved.longer);
      inside = moved.within;
      counts_within = counts_on (call_event (state_of from.line book) e).answer from.counts from.number w.counts_within;
    } in
    record { ready = λ t. rw is on; further = λ t. rw is moved.longer }

-- the run has ended
pub ended_goes_on : (from : Tracing) (sheet : List ℕ) (r : Traced) → r.more ≡ false → GoesOn from sheet r
ended_goes_on from sheet r ended = record { ready = λ t. clash (sym t ∙ ended); further = λ t. clash (sym t ∙ ended) }
