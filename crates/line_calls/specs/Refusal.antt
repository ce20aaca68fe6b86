-- What refuses a call on the whole line, from a few numbers; 0 for nothing, and for an enter. Tied to `call_event` by line_calls/Steps: line_refused.
use Rattle.std.specs.Prelude.{ℕ, Bool}
use Rattle.view.specs.declared.Place.{Place}
use Rattle.view.specs.declared.View.{View}
use Rattle.steps.specs.Effects.{view_of}
use Rattle.scopes.specs.declared.LineCall.{LineCall}
use Rattle.setup_calls.specs.Setup.{open_refusal, seek_refusal, view_refusal}

abbrev pub line_refusal : LineCall → ℕ → ℕ → ℕ → Place → View → Bool → ℕ → ℕ
line_refusal (LineCall.Open lanes capacity) own held size pointer v idle buffer = open_refusal own lanes capacity buffer
line_refusal (LineCall.Enter i c) own held size pointer v idle buffer = 0
line_refusal (LineCall.View displacement extent used blocks) own held size pointer v idle buffer = view_refusal own held (view_of displacement extent used blocks) idle
line_refusal (LineCall.Seek whence offset) own held size pointer v idle buffer = seek_refusal own size pointer v whence offset idle
