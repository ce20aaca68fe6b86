-- The eight bytes stand in the place of those that were there.
use Rattle.std.proofs.Common.{◌∙◌}
use Rattle.event.specs.BigEndian.{big_endian}
use Rattle.event.proofs.Numbers.{big_endian_length}
use Rattle.record_calls.proofs.Digits.{eight_bytes, put_back}
use Rattle.record_calls.proofs.bytes.store_record.Goals as goal

pub returns : goal.returns
returns c =
    let bytes = c.copy_from_slice.ensures.after ∙ c.to_be_bytes.ensures ∙ eight_bytes c.args.content c.ranges.content.fits in
    rw bytes (put_back c.args.book.now (big_endian 8 c.args.content) c.args.at c.requires (big_endian_length 8 c.args.content))
