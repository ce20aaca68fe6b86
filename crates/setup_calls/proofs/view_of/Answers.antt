-- The blocks of the array, one by one.
use Rattle.std.proofs.Common.{◌≡◌, length, rules}
use Rattle.event.proofs.Blocks.{eight_are}
use Rattle.setup_calls.proofs.view_of.Goals as goal

pub returns : goal.returns
returns c =
    let eight : length c.args.blocks ≡ 8 = search rules in
    rw (eight_are c.args.blocks eight)
