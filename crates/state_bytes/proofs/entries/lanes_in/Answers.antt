-- `lanes_in` meets its contract: the lanes made are those of the entries.
use Rattle.std.proofs.Common.{ℕ, ◌+◌, ◌*◌, ◌∙◌, rules}
use Rattle.state_bytes.specs.StateBytes.{lane_at}
use Rattle.state_bytes.proofs.Walk.{lanes_are, made_by}
use Rattle.state_bytes.proofs.entries.lanes_in.Goals as goal

pub returns : goal.returns
returns c =
    let bytes = c.args.bytes.now in
    made_by _ (λ (i : ℕ). lane_at (64 + 8 * i) bytes) _ 128 (λ i y f' h k. search rules) c.from_fn.result c.from_fn.ensures.items ∙ lanes_are bytes 64 128
