-- The eight bytes from the index on, as the number that they stand for.
use Rattle.std.proofs.Common.{◌≡◌, ℕ, ◌+◌, ◌-◌, List, drop, length, take, ap, ◌∙◌, arith}
use Rattle.event.specs.BigEndian.{number_of}
use Rattle.record_calls.proofs.Digits.{number_read}
use Rattle.record_calls.proofs.bytes.load_record.Goals as goal

pub returns : goal.returns
returns c =
    let whole = rw c.unwrap.ensures at c.try_into.ensures.1 in
    let eight : c.args.at + 8 - c.args.at ≡ 8 = omega arith in
    let part : c.unwrap.result ≡ take 8 (drop c.args.at c.args.book.now) = rw eight at whole.same in
    c.from_be_bytes.ensures ∙ number_read _ (ap (λ (l : List ℕ). length l) whole.same ∙ whole.long) ∙ ap number_of part
