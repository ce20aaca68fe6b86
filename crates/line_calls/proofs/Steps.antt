-- A call on the whole line that a number refuses is refused with it by the step.
use Prim.Native.Nat.{ℕ}
use mathlib.Core.Path.{◌≡◌, refl, ◌∙◌}
use mathlib.Core.Bool.{true}
use mathlib.Core.List.{List}
use lib.ListN.{length}
use Rattle.lists.specs.Lists.{all_pass}
use Rattle.line.specs.declared.Line.{Line}
use Rattle.line.specs.Line.{is_idle, on}
use Rattle.line.specs.Sound.{sound}
use Rattle.steps.specs.Meets.{state_of}
use Rattle.steps.specs.Step.{call_event, refuse}
use Rattle.scopes.specs.Scope.{line_event}
use Rattle.scopes.specs.declared.LineCall.{LineCall}
use Rattle.setup_calls.proofs.Steps.{open_step_lem, refused_by, seek_step_lem, view_step_lem}
use Rattle.line_calls.specs.Refusal.{line_refusal}

-- the number for a call on a line, with its book
abbrev pub number_on : Line → List ℕ → LineCall → ℕ
number_on l book call = line_refusal call l.lanes l.capacity l.size l.pointer l.view (all_pass (on is_idle) l.lane) (length book)

pub line_refused : (l : Line) (book : List ℕ) → sound l (length book) ≡ true → (call : LineCall) → (number_on l book call ≡ 0 → ⊥)
    → call_event (state_of l book) (line_event call) ≡ refuse (number_on l book call) (state_of l book)
line_refused l book ok (LineCall.Open lanes capacity) n = open_step_lem l book ok lanes capacity ∙ refused_by _ _ _ n
line_refused l book ok (LineCall.Enter i c) n = absurd (n refl)
line_refused l book ok (LineCall.View displacement extent used blocks) n = view_step_lem l book ok displacement extent used blocks ∙ refused_by _ _ _ n
line_refused l book ok (LineCall.Seek whence offset) n = seek_step_lem l book ok whence offset ∙ refused_by _ _ _ n
