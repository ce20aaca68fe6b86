-- The lanes of an open line stay as many, whatever is called.
use Prim.Native.Nat.{◌<◌}
use mathlib.Core.Path.{◌≡◌, refl, ◌∙◌}
use mathlib.Core.List.{List, [], ◌∷◌}
use native.Mathlib.Omega.{arith}
use Rattle.waitlist.specs.NextLane.{next_lane}
use Rattle.event.specs.Event.{Call}
use Rattle.steps.specs.State.{Result, State}
use Rattle.steps.specs.Step.{after_by}
use Rattle.steps.proofs.Cases.{steps}
use Rattle.steps.proofs.Lanes.{LanesAfter, lanes_after, opening, stay}
use Rattle.trace.specs.Trace.{CallBytes, after_all, call_in}
use Rattle.demand3.proofs.Trace.{then}

stays : (x : State) → 0 < x.line.lanes → (c : Call) {r : Result} → LanesAfter x c r → r.after.line.lanes ≡ x.line.lanes
stays x some c (stay e) = e
stays x some c (opening lanes capacity q z) = absurd (omega arith)

pub open_lanes_stay : (gs : List CallBytes) (x : State) → 0 < x.line.lanes → (after_all next_lane x gs).line.lanes ≡ x.line.lanes
unfolding after_by
open_lanes_stay [] x h = refl
open_lanes_stay (g ∷ gs) x h =
    let e : (then x g).line.lanes ≡ x.line.lanes = stays x h (call_in g) (lanes_after next_lane x (call_in g) (steps next_lane x (call_in g))) in
    open_lanes_stay gs (then x g) (omega arith) ∙ e
