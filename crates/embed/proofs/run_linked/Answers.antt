-- `run_linked` meets its contract: it is the run with a report from an unopened line.
use Rattle.std.proofs.Common.{ap, ◌∙◌}
use Rattle.linebook_text.proofs.Fresh.{from_unopened}
use Rattle.embed.specs.Embedded.{length_printed}
use Rattle.embed.proofs.run_linked.Goals as goal

pub returns : goal.returns
returns c =
    let m = from_unopened _ _ _ _ _ _ _ _ c.unopened.ensures c.run_reported-ran.ensures in
    record { answer = c.length_of.ensures ∙ ap length_printed m.answer; book_after = m.book; text_after = m.text; report_after = m.report_left; fits = rw m.answer at m.fits }
