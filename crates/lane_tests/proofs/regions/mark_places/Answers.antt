-- A word more is marked.
use Rattle.std.proofs.Common.{◌+◌, ◌*◌, ◌<◌, arith}
use Rattle.lane_tests.proofs.Places.{words_more}
use Rattle.lane_tests.proofs.regions.mark_places.Goals as goal

pub loop-i-preserved : goal.loop-i-preserved
loop-i-preserved c =
    let a = c.args in
    let l = c.loop-i in
    let some : 0 < a.count = omega (arith, c.if-count-eq0.false) in
    let high : 64 * l.i < a.first + a.count = omega (arith, c.div_ceil-i-end.ensures, c.loop-i-test.true) in
    words_more a.words.now l.words a.first a.count l.i _ _ _ l.invariant some l.auto.i high c.max-from.ensures c.min-to.ensures c.mask_of-mask.ensures
    (omega (arith, high, c.requires.whole, c.requires.in_range some)) c.if-words-i-ne0.false
