-- The lists of demand 3 are all that is called: a call made with an event is the call of its bytes, and the run of a sheet is a list of calls.
use Rattle.std.specs.Prelude.{Some, None, Ok, Err}
use Prim.Native.Nat.{ℕ, zero, suc}
use mathlib.Core.Path.{◌≡◌, refl, sym, ap, subst}
use mathlib.Core.Logic.{◌⊎◌, inl, inr}
use mathlib.Core.Bool.{true}
use mathlib.Core.List.{List, [], ◌∷◌, append-nil, map}
use lib.ListN.{length}
use Rattle.line.specs.Line.{Shaped}
use Rattle.line.specs.Sound.{sound}
use Rattle.line.proofs.Facts.{good_of, sound_of}
use Rattle.waitlist.specs.NextLane.{next_lane}
use Rattle.event.specs.Kinds.{is_listed}
use Rattle.event.specs.Event.{given, kind_of}
use Rattle.event.specs.ReadWrite.{read_at}
use Rattle.event.specs.Typed.{Typed}
use Rattle.event.specs.declared.Event.{Event}
use Rattle.event.specs.ReadWrite.{Reading}
use Rattle.event.specs.Refusal.{number_of}
use Rattle.event.proofs.ByKind.{listed_or}
use Rattle.event.proofs.RoundTrip.{body, call_reads_back}
use Rattle.steps.specs.State.{Result, State, fresh}
use Rattle.steps.specs.Step.{after_by, call_bytes, call_event, calls_by, refuse, step, step_by}
use Rattle.steps.specs.declared.Answer.{Answer}
use Rattle.steps.proofs.Cases.{steps}
use Rattle.steps.proofs.Keeps.{GoodState, keeps, unopened_good}
use Rattle.printout.specs.Run.{Ran, answered, done, run, run_on}
use Rattle.printout.proofs.Runs.{goes_on}
use Rattle.event.proofs.Lengths.{reads}
use Rattle.trace.proofs.SheetCalls.{read_event, read_refused}
use Rattle.trace.specs.Trace.{CallBytes, after_all, call_in}
use Rattle.trace.specs.SheetCalls.{call_at, calls_from, calls_in}

-- ---- a call made with an event, an unlisted one included, is the call of its bytes
pub event_is_bytes : (x : State) (e : Event) → Typed e → call_event x e ≡ call_bytes x (kind_of e) (body e)
event_is_bytes x e t = go (listed_or e)
  where
    go : (is_listed (kind_of e) ≡ true) ⊎ (e ≡ Event.Unlisted) → call_event x e ≡ call_bytes x (kind_of e) (body e)
    go (inl l) = ap (step x) (sym (rw (append-nil (body e)) at (call_reads_back e [] l t)))
    go (inr z) = rw z

-- ---- a run is a list of calls
-- the answers of a run from x, and what it leaves, are those of these calls
pub record IsList (x : State) (calls : List CallBytes) (r : Ran) : Type 0 where
  pub answers : r.answers ≡ map (λ (s : Result). s.answer) (calls_by next_lane x (map call_in calls))
  pub after : r.after ≡ after_all next_lane x calls

no_calls : (x : State) → IsList x [] (done x)
unfolding calls_by after_by
no_calls x = record { answers = refl; after = refl }

-- one call and then a list of calls
one_more : (x : State) (g : CallBytes) (gs : List CallBytes) (r : Ran) → IsList (step_by next_lane x (call_in g)).after gs r
    → IsList x (g ∷ gs) (answered (step_by next_lane x (call_in g)).answer r)
unfolding calls_by after_by
one_more x g gs r rest = record { answers = ap (λ (l : List Answer). (step_by next_lane x (call_in g)).answer ∷ l) rest.answers; after = rest.after }

-- the same by the event that the call gives
event_more : (x : State) (g : CallBytes) (gs : List CallBytes) (e : Event) (r : Ran) → call_in g ≡ given e → IsList (call_event x e).after gs r
    → IsList x (g ∷ gs) (answered (call_event x e).answer r)
event_more x g gs e r same rest =
    subst (λ (s : Result). IsList s.after gs r → IsList x (g ∷ gs) (answered s.answer r)) (ap (step_by next_lane x) same) (one_more x g gs r) rest

-- a refused call alone
refused_alone : (x : State) (g : CallBytes) (k : ℕ) → step_by next_lane x (call_in g) ≡ refuse k x → IsList x (g ∷ []) (answered (Answer.Refused k) (done x))
refused_alone x g k e =
    let rest : IsList (step_by next_lane x (call_in g)).after [] (done x) = rw (ap (λ (r : Result). r.after) e) (no_calls x) in
    subst (λ (a : Answer). IsList x (g ∷ []) (answered a (done x))) (ap (λ (r : Result). r.answer) e) (one_more x g [] (done x) rest)

on_is_list : (most : ℕ) (x : State) (sheet : List ℕ) (at : ℕ) → GoodState x → IsList x (calls_from most sheet at) (run_on most x sheet at)
unfolding run_on calls_from
on_is_list zero x sheet at G = no_calls x
on_is_list (suc most) x sheet at G = go (read_at sheet at) refl (λ y n g. on_is_list most y sheet n g)
  where
    ok : sound x.line (length x.book) ≡ true
    ok = sound_of x.line (length x.book) G

    go : (r : Reading) → read_at sheet at ≡ r → ((y : State) (n : ℕ) → GoodState y → IsList y (calls_from most sheet n) (run_on most y sheet n))
        → IsList x (calls_from (suc most) sheet at) (run_on (suc most) x sheet at)
    go (Ok None) q later = rw q (no_calls x)
    go (Err k) q later = rw q (refused_alone x (call_at sheet at) (number_of k) (read_refused sheet at x ok k q))
    go (Ok (Some (e, next))) q later =
        rw (q, goes_on x e ok (reads sheet at e next q).listed)
        (event_more x (call_at sheet at) (calls_from most sheet next.at) e _ (read_event sheet at e next q) (later (call_event x e).after next.at (keeps G (steps next_lane x (given e)))))

good_run_is_list : (x : State) (sheet : List ℕ) → GoodState x → IsList x (calls_in sheet) (run x sheet)
unfolding run
good_run_is_list x sheet G = rw (sound_of x.line (length x.book) G) (on_is_list (length sheet) x sheet 0 G)

-- from any sound line: the calls are those of the sheet
pub sound_run_is_list : (x : State) (sheet : List ℕ) → Shaped x.line → sound x.line (length x.book) ≡ true → IsList x (calls_in sheet) (run x sheet)
sound_run_is_list x sheet shape ok = good_run_is_list x sheet (good_of x.line (length x.book) shape ok)

-- from an unopened line and any lent bytes
pub run_is_list : (book sheet : List ℕ) → IsList (fresh book) (calls_in sheet) (run (fresh book) sheet)
run_is_list book sheet = good_run_is_list (fresh book) sheet (unopened_good book)
