-- `put_end` meets its contract: the words of what is left, then the counts.
use native.Mathlib.Omega.{arith}
use Rattle.number_text.proofs.Stores.{and_then}
use Rattle.printout.specs.Print.{words}
use Rattle.trace_text.proofs.summary.put_end.Goals as goal

pub put_all_refused-requires : goal.put_all_refused-requires
put_all_refused-requires c =
    omega (
      arith,
      c.put_accepted-refused.ensures.1,
      c.put_lanes-to_counts.ensures.1,
      c.number-next.ensures.1,
      c.word-to_place.ensures.1,
      c.number-to_word.ensures.1,
      c.word-to_size.ensures.1,
      c.requires,
    )

pub returns : goal.returns
unfolding words
returns c =
    let size = rw c.from.ensures at c.number-to_word.ensures.0 in
    let place = rw c.from-2.ensures at c.number-next.ensures.0 in
    let left = and_then c.word-to_size.ensures.0 (and_then size (and_then c.word-to_place.ensures.0 place)) in (
      and_then left (and_then c.put_lanes-to_counts.ensures.0 (and_then c.put_accepted-refused.ensures.0 c.put_all_refused.ensures.0)),
      omega (
        arith,
        c.put_all_refused.ensures.1,
        c.put_accepted-refused.ensures.1,
        c.put_lanes-to_counts.ensures.1,
        c.number-next.ensures.1,
        c.word-to_place.ensures.1,
        c.number-to_word.ensures.1,
        c.word-to_size.ensures.1,
        c.requires,
      ),
    )
