-- `gudlemi_run` meets its contract: it is the run with a report of no waiting.
use Rattle.embed.proofs.gudlemi_run.Goals as goal

pub returns : goal.returns
returns c =
    let m = rw c.empty.ensures at c.run_linked.ensures in
    record { answer = m.answer; book_after = m.book_after; text_after = m.text_after; fits = m.fits }
