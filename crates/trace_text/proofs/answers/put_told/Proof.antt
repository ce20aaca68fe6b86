-- `put_told` meets its contract: a refusal with its reason, or the answer as it is printed.
use native.Mathlib.Omega.{arith}
use borrow.Author.Rules.{rules}
use Rattle.answer_text.proofs.Lengths.{values_short}
use Rattle.answer_text.proofs.Accepted.{not_refused}
use Rattle.trace_text.proofs.answers.put_told.Statement.{statement}
use Rattle.trace_text.proofs.answers.put_told.Tie as tie

put-values-requires : tie.Need-put_values-requires
put-values-requires c κs =
    omega (arith, c.requires, values_short c.args.answer _ c.well_formed.1.1.0)

returns : tie.Need-returns-in-Refused
returns c = rw c.in-Refused.is (search rules)

returns-2 : tie.Need-returns-in_default
returns-2 c =
    rw (not_refused c.args.answer c.in_default.in_default-own.keys2)
    (c.put_values.ensures, omega (arith, c.put_values.ensures.ends, values_short c.args.answer _ c.well_formed.1.1.0))

pub put_told_spec : {M : Type 1} → statement M
put_told_spec =
    tie.close
    (tie.spec
    (λ c. search rules)
    (λ c κs. search rules)
    put-values-requires
    (λ c. search rules)
    returns
    (λ c. search rules)
    returns-2)
