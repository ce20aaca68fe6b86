-- A chain of calls over state bytes is a list of calls of demand 3, and the chain of a sheet's calls leaves what its run leaves.
use Prim.Native.Nat.{ℕ}
use mathlib.Core.Path.{◌≡◌, refl, sym, ap, ◌∙◌}
use mathlib.Core.Bool.{true}
use mathlib.Core.List.{List, [], ◌∷◌, ◌++◌}
use lib.ListN.{length}
use borrow.Author.Tests.{leb-true}
use Rattle.lists.specs.Lists.{all_pass}
use Rattle.lists.proofs.Tests.{and_left, and_right}
use Rattle.waitlist.specs.NextLane.{next_lane}
use Rattle.steps.specs.Answer.{said_by}
use Rattle.steps.specs.State.{State, fresh}
use Rattle.steps.specs.Step.{after_by, call_bytes}
use Rattle.steps.proofs.Cases.{steps}
use Rattle.steps.proofs.Keeps.{GoodState, keeps, unopened_good}
use Rattle.trace.specs.Trace.{CallBytes, Entry, after_all, call_in, entries, entry}
use Rattle.demand3.proofs.Sheets.{run_is_list}
use Rattle.demand3.proofs.Theorem.{demand_three}
use Rattle.state_bytes.specs.StateBytes.{state_bytes}
use Rattle.answer_bytes.specs.AnswerBytes.{answer_length}
use Rattle.state_laws.specs.Chains.{ChainsAreLists, ChainsAreRuns, Lent, SingleCall, called_on, calls_of, chain_after, chain_entries, has_room, left_by}
use Rattle.state_laws.proofs.Calls.{book_after, said_after, state_after}

-- the state bytes of a line, over its book
abbrev lent_of : State → List ℕ → Lent
lent_of x more = record { state = state_bytes x.line ++ more; book = x.book }

-- what a chain from the state bytes of a sound line on comes to
record Goes (x : State) (more : List ℕ) (ms : List SingleCall) : Type 0 where
  answers : chain_entries (lent_of x more) ms ≡ entries next_lane x (calls_of ms)
  state_left : (chain_after (lent_of x more) ms).state ≡ state_bytes (after_all next_lane x (calls_of ms)).line ++ more
  book_left : (chain_after (lent_of x more) ms).book ≡ (after_all next_lane x (calls_of ms)).book

goes : (ms : List SingleCall) (x : State) (more : List ℕ) → GoodState x → all_pass has_room ms ≡ true → Goes x more ms
unfolding chain_entries chain_after entries after_by
goes [] x more G room = record { answers = refl; state_left = refl; book_left = refl }
goes (m ∷ ms) x more G room =
    let g = m.call in
    let fits = leb-true answer_length (length m.answer) (and_left (has_room m) (all_pass has_room ms) room) in
    let r = call_bytes x g.kind g.body in
    let left : left_by (called_on (lent_of x more) m) ≡ lent_of r.after more =
    rw (state_after x G g.kind g.body more m.answer fits, book_after x G g.kind g.body more m.answer fits) in
    let rest = goes ms r.after more (keeps G (steps next_lane x (call_in g))) (and_right (has_room m) (all_pass has_room ms) room) in
    record {
      answers = rw (said_after x G g.kind g.body more m.answer fits) (ap (λ (l : List Entry). entry g (said_by r.answer) ∷ l) (ap (λ (y : Lent). chain_entries y ms) left ∙ rest.answers));
      state_left = ap (λ (y : Lent). (chain_after y ms).state) left ∙ rest.state_left;
      book_left = ap (λ (y : Lent). (chain_after y ms).book) left ∙ rest.book_left;
    }

pub chains_are_lists : ChainsAreLists
chains_are_lists more book ms room =
    let c = goes ms (fresh book) more (unopened_good book) room in
    record { answers = c.answers; state_left = c.state_left; book_left = c.book_left; demand = demand_three book (calls_of ms) }

pub chains_are_runs : ChainsAreRuns
chains_are_runs more book sheet ms room same =
    let c = goes ms (fresh book) more (unopened_good book) room in
    let after = ap (λ (gs : List CallBytes). after_all next_lane (fresh book) gs) same ∙ sym (run_is_list book sheet).after in
    record {
      state_left = c.state_left ∙ ap (λ (x : State). state_bytes x.line ++ more) after;
      book_left = c.book_left ∙ ap (λ (x : State). x.book) after;
    }
