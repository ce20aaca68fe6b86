-- The calls that the report is read off are the run's own: their answers are those of the run, and from an unopened line they are a list that demand 3 speaks of.
use Prim.Native.Nat.{ℕ, suc}
use mathlib.Core.Path.{◌≡◌, refl, sym, ap, ◌∙◌}
use mathlib.Core.Bool.{true}
use mathlib.Core.List.{List, [], ◌∷◌, map}
use native.Mathlib.Omega.{arith}
use lib.ListN.{get_or, length}
use Rattle.lists.proofs.Tests.{by_test, clash}
use Rattle.line.specs.Line.{Shaped}
use Rattle.waitlist.specs.NextLane.{next_lane}
use Rattle.steps.specs.Answer.{Said, said_by}
use Rattle.steps.specs.State.{Result, State, fresh}
use Rattle.event.specs.Event.{Call}
use Rattle.steps.specs.Step.{calls_by, step_by}
use Rattle.steps.specs.declared.Answer.{Answer}
use Rattle.steps.proofs.CheckingOrder.{refused_first}
use Rattle.printout.specs.Run.{Ran, run}
use Rattle.trace.specs.Trace.{CallBytes, Entry, call_in, entries, said_to}
use Rattle.trace.specs.SheetCalls.{calls_in, sheet_entries}
use Rattle.report.specs.Lent.{gets17, is_sound, run_lent}
use Rattle.report.specs.declared.Report.{Report}
use Rattle.report.proofs.Refusal.{unsound_gets_1, without_17_as_without_report}
use Rattle.demand3.specs.Claim.{entries_of}
use Rattle.demand3.proofs.Sheets.{sound_run_is_list}
use Rattle.demand3.proofs.Trace.{then}

-- what the entries of any calls say is what their answers say
entries_said : (gs : List CallBytes) (x : State)
    → map (λ (e : Entry). e.said) (entries next_lane x gs) ≡ map said_by (map (λ (r : Result). r.answer) (calls_by next_lane x (map call_in gs)))
unfolding entries calls_by
entries_said [] x = refl
entries_said (g ∷ gs) x = ap (λ (l : List Said). said_to next_lane x g ∷ l) (entries_said gs (then x g))

pub run_answers_the_entries : (x : State) (sheet : List ℕ) → Shaped x.line → is_sound x ≡ true → map (λ (e : Entry). e.said) (sheet_entries x sheet) ≡ map said_by (run x sheet).answers
run_answers_the_entries x sheet shape s = entries_said (calls_in sheet) x ∙ ap (map said_by) (sym (sound_run_is_list x sheet shape s).answers)

pub demand_three_has_the_entries : (book sheet : List ℕ) → sheet_entries (fresh book) sheet ≡ entries_of next_lane book (calls_in sheet)
demand_three_has_the_entries book sheet = refl

-- ---- 17 is given by a run alone, and only where it applies
pub no_call_gets_17 : (x : State) (c : Call) → (step_by next_lane x c).answer ≡ Answer.Refused 17 → ⊥
no_call_gets_17 x c e = clash (sym (refused_first next_lane x c 17 e).applies)

-- the first of some calls
first_not_17 : (cs : List Call) (x : State) (more : List Answer) → map (λ (r : Result). r.answer) (calls_by next_lane x cs) ≡ Answer.Refused 17 ∷ more → ⊥
unfolding calls_by
first_not_17 [] x more e = let n : ◌≡◌ {A = ℕ} 0 (suc (length more)) = ap length e in absurd (omega arith)
first_not_17 (c ∷ cs) x more e = no_call_gets_17 x c (ap (λ (l : List Answer). get_or l 0 Answer.None) e)

pub only_then_17 : (x : State) (report : Report) (sheet : List ℕ) (more : List Answer) → Shaped x.line → (run_lent x report sheet).answers ≡ Answer.Refused 17 ∷ more → gets17 x report sheet ≡ true
only_then_17 x report sheet more shape e =
    by_test (gets17 x report sheet) (λ t. t)
    (λ f. let plain : (run x sheet).answers ≡ Answer.Refused 17 ∷ more = ap (λ (r : Ran). r.answers) (sym (without_17_as_without_report x report sheet f)) ∙ e in
    by_test (is_sound x)
    (λ s. absurd (first_not_17 (map call_in (calls_in sheet)) x more (sym (sound_run_is_list x sheet shape s).answers ∙ plain)))
    (λ u. absurd (one_is_not_17 (ap (λ (r : Ran). r.answers) (sym (unsound_gets_1 x report sheet u)) ∙ e))))
  where
    one_is_not_17 : Answer.Refused 1 ∷ [] ≡ Answer.Refused 17 ∷ more → ⊥
    one_is_not_17 q = let n : ◌≡◌ {A = ℕ} 1 17 = ap (λ (l : List Answer). (said_by (get_or l 0 Answer.None)).number) q in absurd (omega arith)
