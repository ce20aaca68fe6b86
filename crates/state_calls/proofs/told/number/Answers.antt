-- `number` meets its contract: the bytes of a line are long enough for its numbers.
use Rattle.std.proofs.Common.{sym, ◌∙◌}
use Rattle.state_bytes.proofs.Lengths.{state_long}
use Rattle.state_calls.proofs.told.number.Goals as goal

pub number_of-requires : goal.number_of-requires
number_of-requires c = state_long c.args.state.now (sym c.is_state.ensures ∙ c.if-not-is_state.false)

pub returns : goal.returns
returns c = rw (sym c.is_state.ensures ∙ c.if-not-is_state.false) c.number_of.ensures
