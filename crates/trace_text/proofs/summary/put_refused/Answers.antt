-- `put_refused` meets its contract: the count and the refusal, stored one after the other.
use Rattle.std.proofs.Common.{◌<◌, arith, rules}
use Rattle.trace_text.proofs.Texts.{refused_stored}
use Rattle.trace_text.proofs.summary.put_refused.Goals as goal

pub returns : goal.returns
returns c = let some : 0 < c.args.count = omega arith in search (rules, refused_stored)
