-- A refusal's line is short enough, whatever its number.
use Rattle.std.proofs.Common.{◌<◌, arith, refl}
use Rattle.event.specs.Refusal.{number_of}
use Rattle.changes.proofs.Steps.{refused_with}
use Rattle.answer_text.proofs.Lengths.{refused_short}
use Rattle.sheet_calls.proofs.Rans.{byte}
use Rattle.sheet_calls.proofs.refused_call.Goals as goal

pub put_refused-end-requires : goal.put_refused-end-requires
put_refused-end-requires c =
    let small : c.number.result < 256 = rw c.number.ensures (byte c.args.reason) in
    omega (arith, c.requires, refused_short c.number.result small)

pub returns : goal.returns
returns c =
    let put = rw c.number.ensures at c.put_refused-end.ensures in
    record {
      change = refused_with c.args.caller.seen (number_of c.args.reason) c.refuse.ensures;
      past = refl;
      told = refl;
      starts = refl;
      put = record { text = put; short = omega (arith, put.ends, refused_short (number_of c.args.reason) (byte c.args.reason)) };
    }
