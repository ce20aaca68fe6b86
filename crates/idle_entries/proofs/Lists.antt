-- Over lists of calls entries past N do not show either; and lines with more idle entries than one that has more.
use Prim.Native.Nat.{ℕ, ◌+◌}
use mathlib.Core.Path.{◌≡◌, refl, ap, ◌∙◌}
use mathlib.Core.List.{List, [], ◌∷◌, append_assoc, append-nil}
use lib.ListN.{replicate, replicate-append-replicate}
use Rattle.line.specs.declared.Line.{Line}
use Rattle.line.specs.Line.{idle_lane}
use Rattle.event.specs.Event.{Call}
use Rattle.steps.specs.State.{Result, State}
use Rattle.steps.specs.Step.{after_by, after_calls, calls, calls_by, step}
use Rattle.idle_entries.specs.Widened.{HasEntries, SameStep, Wider, widened}
use Rattle.idle_entries.specs.FewerLanes.{answers_of}
use Rattle.idle_entries.proofs.Steps.{entries_do_not_show}

-- ---- every list of calls on two lines that are one but for idle entries
pub same_answers : (cs : List Call) (wide narrow : State) → Wider wide narrow → answers_of (calls wide cs) ≡ answers_of (calls narrow cs)
unfolding calls_by
same_answers [] wide narrow W = refl
same_answers (c ∷ cs) wide narrow W =
    let S = entries_do_not_show wide narrow W c in
    rw (S.answer, same_answers cs (step wide c).after (step narrow c).after S.after)

pub same_after : (cs : List Call) (wide narrow : State) → Wider wide narrow → Wider (after_calls wide cs) (after_calls narrow cs)
unfolding after_by
same_after [] wide narrow W = W
same_after (c ∷ cs) wide narrow W = same_after cs (step wide c).after (step narrow c).after (entries_do_not_show wide narrow W c).after

-- more entries than one that has more
more_same : (a b : ℕ) (l : Line) → widened a (widened b l) ≡ widened (b + a) l
more_same a b l =
    rw
    (append_assoc l.lane (replicate b idle_lane) (replicate a idle_lane), append_assoc l.flag (replicate b 0) (replicate a 0), replicate-append-replicate b a idle_lane, replicate-append-replicate {A = ℕ} b a 0)

pub wider_trans : (z y x : State) → Wider z y → Wider y x → Wider z x
wider_trans z y x U W =
    record {
      more = W.more + U.more;
      line = U.line ∙ ap (λ (l : Line). widened U.more l) W.line ∙ more_same U.more W.more x.line;
      book = U.book ∙ W.book;
      entries = W.entries;
    }

pub wider_self : (x : State) → HasEntries x.line → Wider x x
wider_self x E = record { more = 0; line = rw (append-nil x.line.lane, append-nil x.line.flag); book = refl; entries = E }

pub same_trans : (a b c : Result) → SameStep a b → SameStep b c → SameStep a c
same_trans a b c S T = record { answer = S.answer ∙ T.answer; after = wider_trans a.after b.after c.after S.after T.after }
