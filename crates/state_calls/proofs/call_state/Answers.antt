-- `call_state` meets its contract past the tests: the step on the line that the bytes are.
use Rattle.std.proofs.Common.{sym, ◌∙◌}
use Rattle.state_calls.proofs.Meets.{met_stored}
use Rattle.state_calls.proofs.call_state.Goals as goal

pub returns : goal.returns
returns c =
    let stored = c.store.ensures in
    met_stored _ _ _ _ _ _ _ _ _ _ _ c.if-state-lt-STATE_LENGTH.false c.if-answer-lt-ANSWER_LENGTH.false (sym c.is_state.ensures ∙ c.if-not-is_state.false) c.line_in.ensures c.call_bytes-outcome.ensures stored.status stored.line stored.told
