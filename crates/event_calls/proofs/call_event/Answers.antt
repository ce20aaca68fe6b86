-- An unsound line is refused with 1, and an unlisted kind with 2.
use Rattle.std.proofs.Common.{◌≡◌, length, sym, ◌∙◌, true, false, rules}
use Rattle.line.specs.Sound.{sound}
use Rattle.event.specs.Event.{given}
use Rattle.scopes.specs.declared.Scope.{Scope}
use Rattle.scopes.proofs.Scopes.{found_event}
use Rattle.refuse.proofs.First.{refused_with}
use Rattle.event_calls.proofs.Unsound.{unlisted_refused, unsound}
use Rattle.event_calls.proofs.call_event.Goals as goal

pub returns-then-not-is_sound : goal.returns-then-not-is_sound
returns-then-not-is_sound c =
    let a = c.args in
    let not_sound : sound a.line (length a.book.now) ≡ false = search rules in
    unsound a.line a.book.now (given a.event) _ not_sound (refused_with a.line 1 c.refuse.ensures)

pub returns-in-Unlisted : goal.returns-in-Unlisted
returns-in-Unlisted c =
    let a = c.args in
    let is_sound : sound a.line (length a.book.now) ≡ true = search rules in
    rw (found_event a.event Scope.Unlisted (sym c.scope_of.ensures ∙ c.in-Unlisted.is))
    (unlisted_refused a.line a.book.now _ is_sound (refused_with a.line 2 c.refuse-in-Unlisted.ensures))
