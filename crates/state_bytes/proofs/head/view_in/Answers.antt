-- `view_in` meets its contract: field after field.
use Rattle.std.proofs.Common.{ℕ, ◌+◌, ◌*◌, rules}
use Rattle.state_bytes.specs.StateBytes.{block_at}
use Rattle.decode_fields.proofs.Numbers.{number_of_one}
use Rattle.state_bytes.proofs.Walk.{made_by}
use Rattle.state_bytes.proofs.head.view_in.Goals as goal

pub returns : goal.returns
returns c =
    let bytes = c.args.bytes.now in
    let blocks = made_by _ (λ (i : ℕ). block_at (28 + 4 * i) bytes) _ 8 (λ i y f' h k. search rules) c.from_fn.result c.from_fn.ensures.items in
    rw (blocks, c.number32.ensures.0, c.number16.ensures.0, number_of_one bytes 27 (search rules))
