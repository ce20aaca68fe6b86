-- The counts of waiting in a part of a run: that they begin, that an event is counted, and that those of two parts are those of one.
use Prim.Native.Nat.{ℕ, suc, ◌+◌, ◌-◌, ◌≤◌}
use mathlib.Core.Path.{◌≡◌, refl, sym, ap, ◌∙◌, subst}
use mathlib.Core.List.{List, ◌∷◌}
use native.Mathlib.Omega.{arith}
use lib.ListN.{length}
use Rattle.line.specs.declared.Line.{Line}
use Rattle.waitlist.specs.NextLane.{next_lane}
use Rattle.event.specs.ReadWrite.{event_read, read_at}
use Rattle.event.specs.declared.Cursor.{Cursor}
use Rattle.event.specs.declared.Event.{Event}
use Rattle.event.proofs.Lengths.{reads}
use Rattle.steps.specs.Meets.{state_of}
use Rattle.steps.specs.State.{Result, State, leaves}
use Rattle.steps.specs.Step.{call_event, step_by}
use Rattle.steps.specs.declared.Answer.{Answer}
use Rattle.steps.proofs.Keeps.{GoodState}
use Rattle.changes.specs.Change.{entry_of}
use Rattle.trace.specs.SheetCalls.{call_at, calls_from}
use Rattle.trace.specs.Trace.{CallBytes, Entry, call_in, entries, entry, said_to}
use Rattle.trace.proofs.Seen.{entry_shown, lane_from}
use Rattle.trace.proofs.SheetCalls.{calls_event, entries_more, read_event}
use Rattle.wait_counts.specs.Counting.{Counting, lane_total}
use Rattle.wait_counts.specs.Counts.{counted, releases_in}
use Rattle.wait_counts.proofs.Marks.{Goes, goes}
use Rattle.lanes_run.specs.Parts.{Counted, entries_left}

pub counts_start : (sheet : List ℕ) (line : Line) (book waits : List ℕ) (at number : ℕ) → Counting (state_of line book) waits → releases_in waits ≤ number
    → Counted sheet (state_of line book) waits at number line book waits at number
counts_start sheet line book waits at number counting few = record { counting = counting; few = few; totals = λ i h. refl }

-- one part of a run after another
pub counts_joined : {sheet : List ℕ} {x₀ : State} {waits₀ : List ℕ} {from first : ℕ} {line₁ : Line} {book₁ waits₁ : List ℕ} {at₁ number₁ : ℕ} {line₂ : Line} {book₂ waits₂ : List ℕ} {at₂ number₂ : ℕ}
    → Counted sheet x₀ waits₀ from first line₁ book₁ waits₁ at₁ number₁ → Counted sheet (state_of line₁ book₁) waits₁ at₁ number₁ line₂ book₂ waits₂ at₂ number₂
    → Counted sheet x₀ waits₀ from first line₂ book₂ waits₂ at₂ number₂
counts_joined A B = record { counting = B.counting; few = B.few; totals = λ i h. B.totals i h ∙ A.totals i h }

module _ (sheet : List ℕ) (x₀ : State) (waits₀ : List ℕ) (from first : ℕ) (line : Line) (book waits : List ℕ) (at number : ℕ)
    (C : Counted sheet x₀ waits₀ from first line book waits at number) (G : GoodState (state_of line book)) (numbered : number ≤ at) where
  abbrev x : State
  x = state_of line book

  -- the call that stands there, and its entry
  abbrev call : CallBytes
  call = call_at sheet at

  abbrev seen : Entry
  seen = entry call (said_to next_lane x call)

  -- an event, with its answer and what it leaves
  module _ (e : Event) (next : Cursor) (q : read_at sheet at ≡ event_read e next) (a : Answer) (line' : Line) (book' : List ℕ) (called : call_event x e ≡ leaves a line' book') where
    step_is : step_by next_lane x (call_in call) ≡ leaves a line' book'
    step_is = ap (step_by next_lane x) (read_event sheet at e next q) ∙ called

    went : Goes waits seen (leaves a line' book')
    went = subst (Goes waits seen) step_is (goes x G waits C.counting call)

    left : length sheet - number ≡ suc (length sheet - (number + 1))
    left = let r = reads sheet at e next q in omega (arith, numbered, r.longer, r.within)

    -- the entries that are left are this one and the rest
    entries_left_lem : entries_left x sheet at number ≡ seen ∷ entries_left (state_of line' book') sheet next.at (number + 1)
    entries_left_lem =
        ap (λ (n : ℕ). entries next_lane x (calls_from n sheet at)) left
        ∙ ap (entries next_lane x) (calls_event sheet at (length sheet - (number + 1)) e next q)
        ∙ entries_more x call (calls_from (length sheet - (number + 1)) sheet next.at)
        ∙ ap (λ (r : Result). seen ∷ entries next_lane r.after (calls_from (length sheet - (number + 1)) sheet next.at)) step_is

    -- the answer is counted
    pub call_counted : (waits' : List ℕ) → waits' ≡ counted waits seen.lane a → Counted sheet x₀ waits₀ from first line' book' waits' next.at (number + 1)
    call_counted waits' is =
        subst (λ (w : List ℕ). Counted sheet x₀ waits₀ from first line' book' w next.at (number + 1)) (sym is)
        (record {
          counting = went.counting;
          few = omega (arith, went.releases, C.few);
          totals = λ i h.
              went.totals (entries_left (state_of line' book') sheet next.at (number + 1)) i h
              ∙ ap (λ (es : List Entry). lane_total waits i es) (sym entries_left_lem)
              ∙ C.totals i h;
        })

    -- by the lane that the event names
    pub lane_counted : (lane : ℕ) → ((d : ℕ) → lane_from e d ≡ lane) → Counted sheet x₀ waits₀ from first line' book' (counted waits (entry_of lane) a) next.at (number + 1)
    lane_counted lane named =
        let shown : seen.lane ≡ lane = ap (λ (t : Entry). t.lane) (entry_shown call (said_to next_lane x call) e (read_event sheet at e next q) (reads sheet at e next q).listed) ∙ named seen.lane in
        call_counted (counted waits (entry_of lane) a) (ap (λ (k : ℕ). counted waits (entry_of k) a) (sym shown) ∙ went.own)
