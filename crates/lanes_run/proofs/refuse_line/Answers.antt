-- A call on the whole line that is refused.
use Rattle.std.specs.Prelude.{Ok}
use Rattle.std.proofs.Common.{◌≡◌, sym, ap, ◌∙◌}
use Rattle.event.specs.ReadWrite.{event_read, read_at}
use Rattle.reader.specs.Reader.{after_reading}
use Rattle.reader.specs.declared.Step.{Step}
use Rattle.lanes_run.proofs.Refusals.{one_refused}
use Rattle.lanes_run.proofs.refuse_line.Goals as goal

pub returns : goal.returns
returns c =
    let a = c.args in
    let step = c.event_at-step.ensures in
    let is = c.in-Ok-Some.is ∙ ap Ok (rw c.in-Ok-Some.is at c.in-Ok-Some.field-0-is) in
    let read : read_at a.sheet.now a.at ≡ event_read c.in-Ok-Some.event c.in-Ok-Some.field-0-0-1 = sym (ap (λ (s : Step). s.reading) step) ∙ is in
    one_refused
    (record {
      event = c.in-Ok-Some.event;
      next = c.in-Ok-Some.field-0-0-1;
      call = c.in-Line.call;
      read = read;
      scope = sym c.scope_of.ensures ∙ c.in-Line.is;
      number = c.in_ok-refusal.ensures;
      further = ap (λ (s : Step). s.at) step ∙ ap (after_reading a.at) read;
    })
