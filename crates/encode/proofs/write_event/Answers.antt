-- What writing answers and leaves, by the length of the event.
use Rattle.std.proofs.Common.{◌∙◌}
use Rattle.encode.proofs.Answers.{refused_3_whole, written_whole}
use Rattle.encode.proofs.write_event.Goals as goal

pub returns-then-buffer-n : goal.returns-then-buffer-n
returns-then-buffer-n c = let e = c.in-Some.ensures in refused_3_whole _ _ _ e.listed e.whole c.if-buffer-n.true

pub returns : goal.returns
returns c = let e = c.in-Some.ensures in let w = written_whole _ _ _ e.listed e.whole c.if-buffer-n.false in (w.0, c.put_event.ensures ∙ w.1)
