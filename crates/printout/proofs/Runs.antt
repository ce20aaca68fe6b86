-- How a run goes on by one event, and where it ends.
use Rattle.std.specs.Prelude.{None, Ok, Err}
use Prim.Native.Nat.{ℕ, zero, suc}
use mathlib.Core.Path.{◌≡◌, refl, sym}
use mathlib.Core.Bool.{true, false}
use mathlib.Core.List.{List}
use native.Mathlib.Omega.{arith}
use borrow.Author.Tests.{lt-leb}
use lib.ListN.{length}
use Rattle.lists.proofs.Tests.{clash}
use Rattle.line.specs.Sound.{sound}
use Rattle.waitlist.specs.NextLane.{next_lane}
use Rattle.event.specs.Kinds.{is_listed}
use Rattle.event.specs.Event.{given, kind_of}
use Rattle.event.specs.ReadWrite.{event_read, read_at}
use Rattle.event.specs.declared.Cursor.{Cursor}
use Rattle.event.specs.declared.Event.{Event}
use Rattle.event.specs.Refusal.{number_of}
use Rattle.event.specs.declared.Refusal.{Refusal}
use Rattle.steps.specs.Answer.{said_by}
use Rattle.steps.specs.Effects.{effect}
use Rattle.steps.specs.State.{Result, State}
use Rattle.steps.specs.Step.{call_event}
use Rattle.steps.specs.declared.Answer.{Answer}
use Rattle.steps.proofs.CheckingOrder.{Applies, Decided, accepted, decided, none_accepted, none_accepts, refused}
use Rattle.printout.specs.Run.{answered, done, ends_run, run_on}

-- ---- an event that was read does not end the run of a sound line: only 1, 2 and 3 would
pub goes_on : (x : State) (e : Event) → sound x.line (length x.book) ≡ true → is_listed (kind_of e) ≡ true → ends_run (call_event x e).answer ≡ false
goes_on x e ok t = go (decided next_lane x (given e))
  where
    -- neither 1 nor 2 nor 3 applies
    later : (k : ℕ) → Applies x (given e) k → ends_run (Answer.Refused k) ≡ false
    later zero a = clash (sym a)
    later (suc zero) a = clash (sym (rw ok at a))
    later (suc (suc zero)) a = clash (sym (rw t at a))
    later (suc (suc (suc zero))) a = clash (sym a)
    later (suc (suc (suc (suc k)))) a = lt-leb (suc (suc (suc (suc k)))) 3 (omega arith)

    go : {r : Result} → Decided next_lane x (given e) r → ends_run r.answer ≡ false
    go (refused k w) = later k w.applies
    go (accepted f) = let a : (said_by (effect next_lane x e).answer).accepted ≡ true = rw (none_accepted next_lane x (given e) f) at (none_accepts next_lane x (given e) f) in rw a

-- ---- the run from a cursor on
module _ (x : State) (sheet : List ℕ) (at : ℕ) where
  pub run_end : (most : ℕ) → read_at sheet at ≡ Ok None → run_on most x sheet at ≡ done x
  unfolding run_on
  run_end zero q = refl
  run_end (suc most) q = rw q

  pub run_refused : (most : ℕ) (k : Refusal) → read_at sheet at ≡ Err k → run_on (suc most) x sheet at ≡ answered (Answer.Refused (number_of k)) (done x)
  unfolding run_on
  run_refused most k q = rw q

  pub run_event : (most : ℕ) (e : Event) (next : Cursor) → read_at sheet at ≡ event_read e next → sound x.line (length x.book) ≡ true → is_listed (kind_of e) ≡ true
      → run_on (suc most) x sheet at ≡ answered (call_event x e).answer (run_on most (call_event x e).after sheet next.at)
  unfolding run_on
  run_event most e next q ok t = rw (q, goes_on x e ok t)
