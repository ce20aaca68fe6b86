use Rattle.std.proofs.Common.{◌≡◌, ℕ, ◌+◌, ◌-◌, List, ◌++◌, rules, length, take, drop, sym, ap, ◌∙◌, subst}
use Rattle.std.proofs.lemmas.List.{take_rest}
use lib.Seq.{take-add}
use Rattle.std.specs.Io.KnownBytes.{Appends}
use Rattle.std.proofs.KnownBytes.{Appends-trans}
use Rattle.standard_io.proofs.write_text.Goals as goal

moved_front : (text : List ℕ) (written more : ℕ) → take written text ++ take more (take (length text - written) (drop written text)) ≡ take (written + more) text
moved_front text written more = ap (λ l. take written text ++ take more l) (take_rest text written) ∙ sym (take-add written more text)

pub loop-written-preserved-in-Ok : goal.loop-written-preserved-in-Ok
loop-written-preserved-in-Ok g c =
    (search rules, subst (Appends _ _) (moved_front c.args.text.now c.loop-written.written c.in-Ok.more) (Appends-trans _ _ _ _ _ c.loop-written.invariant.1 c.in-Ok.ensures.bytes))
