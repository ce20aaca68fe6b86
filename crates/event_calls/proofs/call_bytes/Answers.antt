-- The event that the bytes give, or a refusal by what is wrong with them.
use Rattle.std.proofs.Common.{◌+◌, sym, ◌∙◌}
use Rattle.event.specs.Kinds.{body_length}
use Rattle.event.specs.Event.{call_of}
use Rattle.decode.specs.Body.{body_at}
use Rattle.event_calls.proofs.Unsound.{event_call, never_end, refused_call}
use Rattle.event_calls.proofs.call_bytes.Goals as goal

pub returns-in-Ok-Some : goal.returns-in-Ok-Some
unfolding body_at
returns-in-Ok-Some c =
    let a = c.args in
    let read = sym c.read_body.ensures ∙ rw c.in-Ok-Some.field-0-is at c.in-Ok-Some.is in
    rw (event_call (call_of a.kind a.body.now) (0 + body_length a.kind) c.in-Ok-Some.event _ read) c.call_event.ensures

pub returns-in-Ok-None : goal.returns-in-Ok-None
unfolding body_at
returns-in-Ok-None c =
    let a = c.args in
    never_end (call_of a.kind a.body.now) (0 + body_length a.kind) (sym c.read_body.ensures ∙ rw c.in-Ok-None.field-0-is at c.in-Ok-None.is)

pub returns-in-Err : goal.returns-in-Err
unfolding body_at
returns-in-Err c =
    let a = c.args in
    refused_call a.line a.book.now (call_of a.kind a.body.now) (0 + body_length a.kind) c.in-Err.reason _ (sym c.read_body.ensures ∙ c.in-Err.is)
    c.refuse_bytes-in-Err.ensures
