-- A turn of a run by a refused call on the whole line: it is one event of the run.
use Rattle.std.specs.Prelude.{Some, None}
use Prim.Native.Nat.{ℕ, ◌+◌, ◌≤◌, ◌<◌}
use mathlib.Core.Path.{◌≡◌, refl, sym, ap, ◌∙◌, subst}
use mathlib.Core.List.{List}
use native.Mathlib.Omega.{arith}
use lib.ListN.{length}
use Rattle.view.specs.declared.Place.{Place}
use Rattle.line.specs.declared.Lane.{Lane}
use Rattle.line.specs.declared.Line.{Line}
use Rattle.lane_tests.specs.Rules.{counts_of}
use Rattle.lane_tests.specs.declared.tallies.LaneCounts.{LaneCounts}
use Rattle.lane_tests.proofs.Counts.{idle_counts}
use Rattle.event.specs.Refusal.{number_of}
use Rattle.event.specs.declared.Refusal.{Refusal}
use Rattle.event.proofs.Lengths.{reads}
use Rattle.event.proofs.Reasons.{some_number}
use Rattle.steps.specs.Meets.{state_of}
use Rattle.steps.specs.State.{State, leaves}
use Rattle.steps.specs.Step.{call_event}
use Rattle.steps.specs.declared.Answer.{Answer}
use Rattle.printout.specs.Print.{answer_line}
use Rattle.number_text.specs.Stored.{Stored}
use Rattle.answer_text.specs.Printing.{most_line}
use Rattle.scopes.specs.declared.Scope.{Scope}
use Rattle.scopes.proofs.Scopes.{found_event}
use Rattle.line_calls.proofs.Steps.{line_refused, number_on}
use Rattle.lanes_run.specs.Parts.{Advanced, LineRefusal, RefusedLine, line_now, refusal_now}
use Rattle.lanes_run.proofs.Going.{goes_on, good_state}
use Rattle.lanes_run.proofs.Waits.{call_counted}

-- the next event stands further on, from an index of the sheet
pub line_moves : {l : Line} {size : ℕ} {pointer : Place} {counts : LaneCounts} {buffer : ℕ} {sheet : List ℕ} {at : ℕ} {reason : Refusal} {past : ℕ} → LineRefusal l size pointer counts buffer sheet at reason past → (at < past) × (at < length sheet)
line_moves {sheet = sheet} {at = at} L =
    let w = reads sheet at L.event L.next L.read in
    (omega (arith, L.further, w.longer), omega (arith, w.longer, w.within))

-- the same of the line as it is, which has the same number of lanes, capacity and view
pub refusal_now_lem : {l : Line} {size : ℕ} {pointer : Place} (lanes : List Lane) (flags : List ℕ) {counts : LaneCounts} {buffer : ℕ} {sheet : List ℕ} {at : ℕ} {reason : Refusal} {past : ℕ}
    → LineRefusal l size pointer counts buffer sheet at reason past → LineRefusal (line_now l size pointer lanes flags) size pointer counts buffer sheet at reason past
refusal_now_lem lanes flags L = record { event = L.event; next = L.next; call = L.call; read = L.read; scope = L.scope; number = L.number; further = L.further }

pub line_refused_on : {sheet : List ℕ} {x₀ : State} {out₀ : List ℕ} {from so_far first : ℕ} {l : Line} {book out : List ℕ} {at len number : ℕ} {counts : LaneCounts} {reason : Refusal} {past : ℕ} {out' waits₀ waits : List ℕ} {len' : ℕ}
    → Advanced sheet x₀ out₀ waits₀ from so_far first l book out waits at len number → counts ≡ counts_of l.lane → LineRefusal l l.size l.pointer counts (length book) sheet at reason past
    → Stored (answer_line number (Answer.Refused (number_of reason))) out len out' len' → len' ≤ len + most_line → length out' ≡ length out
    → Advanced sheet x₀ out₀ waits₀ from so_far first l book out' waits past len' (number + 1)
line_refused_on {sheet} {x₀} {out₀} {from} {so_far} {first} {l} {book} {out} {at} {len} {number} {counts} {reason} {past} {out'} {waits₀} {waits} {len'} A same L stored short same_out =
    let G = A.going in
    let number_is : number_on l book L.call ≡ number_of reason = rw (idle_counts l.lane) (ap (λ (k : LaneCounts). refusal_now L.call l l.size l.pointer k (length book)) (sym same) ∙ sym L.number) in
    let called : call_event (state_of l book) L.event ≡ leaves (Answer.Refused (number_of reason)) l book =
    ap (call_event (state_of l book)) (found_event L.event (Scope.Line L.call) L.scope) ∙ line_refused l book G.is_sound L.call (λ z. let some : 0 < number_of reason = some_number reason in absurd (omega (arith, number_is, z))) ∙ rw number_is in
    record {
      going = goes_on sheet x₀ out₀ from so_far first l book out at len number G L.event L.next L.read (Answer.Refused (number_of reason)) l book called G.shaped out' len' stored short refl same_out past L.further;
      counted = rw L.further (call_counted sheet x₀ waits₀ from first l book waits at number A.counted (good_state G) G.numbered L.event L.next L.read (Answer.Refused (number_of reason)) l book called waits refl);
    }

-- ---- what refuses a call on the whole line
module _ {l : Line} {size : ℕ} {pointer : Place} {counts : LaneCounts} {buffer : ℕ} {sheet : List ℕ} {at : ℕ} where
  pub none_refused : RefusedLine l size pointer counts buffer sheet at None
  none_refused reason past e = let z : ◌≡◌ {A = ℕ} 0 1 = cc in absurd (omega arith)

  pub one_refused : {reason : Refusal} {past : ℕ} → LineRefusal l size pointer counts buffer sheet at reason past → RefusedLine l size pointer counts buffer sheet at (Some (reason, past))
  one_refused {reason} {past} L k n e =
      let pair : ◌≡◌ {A = Refusal × ℕ} (reason, past) (k, n) = cc in
      subst (λ (p : Refusal × ℕ). LineRefusal l size pointer counts buffer sheet at p.0 p.1) pair L
