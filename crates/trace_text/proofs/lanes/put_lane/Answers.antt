-- `put_lane` meets its contract: nothing of an idle lane, else its number and its phase.
use mathlib.Core.Path.{refl, sym, ◌∙◌}
use native.Mathlib.Omega.{arith}
use Rattle.event_text.proofs.Shown.{two_then}
use Rattle.printout.specs.Print.{words}
use Rattle.trace_text.proofs.lanes.put_lane.Goals as goal

pub returns-then-is_idle : goal.returns-then-is_idle
returns-then-is_idle c = rw (sym c.is_idle.ensures ∙ c.if-is_idle.true) (record { bytes = refl; ends = omega arith }, omega arith)

pub returns : goal.returns
unfolding words
returns c =
    rw (sym c.is_idle.ensures ∙ c.if-is_idle.false)
    (two_then c.named-next.ensures.0 c.put_phase.ensures.0, omega (arith, c.named-next.ensures.1, c.put_phase.ensures.1))
