-- `lane` meets its contract: the tests, then the entry, which is that of the phase that it names.
use Rattle.std.proofs.Common.{Some, ℕ, ap, arith, sym, ◌∙◌}
use Rattle.state_bytes.proofs.Lengths.{state_long}
use Rattle.state_calls.proofs.Numbers.{its_entry, no_lane, past_all}
use Rattle.state_calls.proofs.told.lane.Goals as goal
use Rattle.state_calls.proofs.told.lane.Goals.{then-state-lane-via-then-state-lane, then-state-lane-via-else-state-lane+then-i-ge-MOST_LANES}

pub bounds-state-8 : goal.bounds-state-8
bounds-state-8 c = omega (arith, state_long c.args.state.now (sym c.is_state.ensures ∙ c.if-not-is_state.false))

pub returns-then-state-lane : goal.returns-then-state-lane
returns-then-state-lane c =
    let e = sym c.is_state.ensures ∙ c.if-not-is_state.false in
    elim c.then-state-lane.branch [
      | then-state-lane-via-then-state-lane w ↦ no_lane c.args.state.now c.args.lane e w.if-state-lane.true
      | then-state-lane-via-else-state-lane+then-i-ge-MOST_LANES w ↦
          past_all c.args.state.now c.args.lane e w.if-state-lane.false (omega (arith, w.if-i-ge-MOST_LANES.true, c.from-i.ensures))
    ]

pub number64-requires : goal.number64-requires
number64-requires c = omega (arith, state_long c.args.state.now (sym c.is_state.ensures ∙ c.if-not-is_state.false), c.from-i.ensures, c.if-i-ge-MOST_LANES.false)

pub returns : goal.returns
returns c =
    let e = sym c.is_state.ensures ∙ c.if-not-is_state.false in
    let read = rw c.from-i.ensures at c.number64.ensures in
    ap (λ (n : ℕ). Some n) read
    ∙ its_entry c.args.state.now c.args.lane e (λ k. omega (arith, c.type_inv.state k)) c.if-state-lane.false (omega (arith, c.if-i-ge-MOST_LANES.false, c.from-i.ensures))
