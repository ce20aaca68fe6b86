-- `is_sound` meets its contract: the test of the bytes, then that of the line.
use Rattle.std.proofs.Common.{ap, sym, ◌∙◌}
use Rattle.line.specs.Sound.{sound}
use Rattle.line.specs.declared.Line.{Line}
use Rattle.state_bytes.proofs.Lengths.{state_long}
use Rattle.state_calls.proofs.told.is_sound.Goals as goal

pub line_in-requires : goal.line_in-requires
line_in-requires c = state_long c.args.state.now (sym c.is_state.ensures ∙ c.if-is_state.true)

pub returns-then-is_state : goal.returns-then-is_state
returns-then-is_state c =
    rw (sym c.is_state.ensures ∙ c.if-is_state.true) (c.is_sound.ensures ∙ ap (λ (l : Line). sound l c.args.book) c.line_in.ensures)
