-- A chain of calls over state bytes and one book, and what it is: a list of calls of demand 3, with its answers. The theorem: state_laws/Chains.
use Rattle.std.specs.Prelude.{ℕ, ◌≡◌, Bool, true, List, [], ◌∷◌, ◌++◌, map, leb, length}
use Rattle.lists.specs.Lists.{all_pass}
use Rattle.line.specs.Line.{unopened}
use Rattle.waitlist.specs.NextLane.{next_lane}
use Rattle.steps.specs.State.{fresh}
use Rattle.printout.specs.Run.{run}
use Rattle.trace.specs.SheetCalls.{calls_in}
use Rattle.trace.specs.Trace.{CallBytes, Entry, after_all, entries, entry}
use Rattle.demand3.specs.Claim.{Demand3}
use Rattle.state_bytes.specs.StateBytes.{state_bytes}
use Rattle.answer_bytes.specs.AnswerBytes.{answer_length, said_in}
use Rattle.state_calls.specs.StateCalls.{Called, call_state}

-- a call, and the buffer that is lent for its answer: the same for all calls, or another for each
pub record SingleCall : Type 0 where
  pub call : CallBytes
  pub answer : List ℕ

abbrev pub has_room : SingleCall → Bool
has_room m = leb answer_length (length m.answer)

-- state bytes and book: each call gets them as the call before left them, refused or not
pub record Lent : Type 0 where
  pub state : List ℕ
  pub book : List ℕ

abbrev pub called_on : Lent → SingleCall → Called
called_on x m = call_state x.state x.book m.call.kind m.call.body m.answer

abbrev pub left_by : Called → Lent
left_by c = record { state = c.state; book = c.book }

-- the calls with what their answers' bytes say
unfoldable pub chain_entries : Lent → List SingleCall → List Entry
chain_entries x [] = []
chain_entries x (m ∷ ms) = entry m.call (said_in (called_on x m).answer) ∷ chain_entries (left_by (called_on x m)) ms

-- what the chain leaves
unfoldable pub chain_after : Lent → List SingleCall → Lent
chain_after x [] = x
chain_after x (m ∷ ms) = chain_after (left_by (called_on x m)) ms

abbrev pub calls_of : List SingleCall → List CallBytes
calls_of ms = map (λ (m : SingleCall). m.call) ms

-- the state bytes of a line that is not yet open with whatever bytes past them, over a book
abbrev pub unopened_over : List ℕ → List ℕ → Lent
unopened_over more book = record { state = state_bytes unopened ++ more; book = book }

-- the chain is the list of these calls of demand 3: the same entries, and it leaves the state bytes of the line, and the book, that the list leaves
pub record ChainIsList (more book : List ℕ) (ms : List SingleCall) : Type 0 where
  pub answers : chain_entries (unopened_over more book) ms ≡ entries next_lane (fresh book) (calls_of ms)
  pub state_left : (chain_after (unopened_over more book) ms).state ≡ state_bytes (after_all next_lane (fresh book) (calls_of ms)).line ++ more
  pub book_left : (chain_after (unopened_over more book) ms).book ≡ (after_all next_lane (fresh book) (calls_of ms)).book
  pub demand : Demand3 next_lane book (calls_of ms)

-- of every list of calls, over any book, with buffers for the answers that are long enough
abbrev pub ChainsAreLists : Type 0
ChainsAreLists = (more book : List ℕ) (ms : List SingleCall) → all_pass has_room ms ≡ true → ChainIsList more book ms

-- the chain of a sheet's calls leaves what the run of the sheet leaves
pub record ChainIsRun (more book sheet : List ℕ) (ms : List SingleCall) : Type 0 where
  pub state_left : (chain_after (unopened_over more book) ms).state ≡ state_bytes (run (fresh book) sheet).after.line ++ more
  pub book_left : (chain_after (unopened_over more book) ms).book ≡ (run (fresh book) sheet).after.book

abbrev pub ChainsAreRuns : Type 0
ChainsAreRuns = (more book sheet : List ℕ) (ms : List SingleCall) → all_pass has_room ms ≡ true → calls_of ms ≡ calls_in sheet → ChainIsRun more book sheet ms
