-- What is gathered with the 16 flags of a round of the loop.
use Rattle.std.proofs.Common.{◌≡◌, ◌+◌, ◌*◌, ◌%◌, arith, refl}
use Prim.Native.Nat.{◌^◌}
use Rattle.waitlist.specs.Words.{word}
use Rattle.waitlist.proofs.WordLaws.{gathered_lt, sixteen_more}
use Rattle.waitlist.proofs.words.gather.Goals as goal

pub loop-i-init : goal.loop-i-init
unfolding word
loop-i-init c = refl

pub overflow_add-gathered : goal.overflow_add-gathered
overflow_add-gathered c =
    let more : c.loop-i.gathered + c.from.result * 2 ^ (16 * c.loop-i.i) % 2 ^ 64 ≡ word c.args.flags.now c.args.first (16 * (c.loop-i.i + 1)) = sixteen_more c.args.flags.now c.args.first c.loop-i.i _ _ (omega (arith, c.loop-i-test.true, c.requires.in_word)) c.loop-i.invariant (rw c.from.ensures c.word_16.ensures) in
    record { fits = gathered_lt _ c.args.flags.now c.args.first (16 * (c.loop-i.i + 1)) 64 (omega (arith, c.loop-i-test.true, c.requires.in_word)) more }

pub loop-i-preserved : goal.loop-i-preserved
loop-i-preserved c = sixteen_more c.args.flags.now c.args.first c.loop-i.i _ _ (omega (arith, c.loop-i-test.true, c.requires.in_word)) c.loop-i.invariant (rw c.from.ensures c.word_16.ensures)
