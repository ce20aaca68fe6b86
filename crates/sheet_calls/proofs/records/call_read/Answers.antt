-- Decided and printed.
use Prim.Native.Nat.{ℕ, ◌≤◌}
use mathlib.Core.Path.{refl, ap, ◌∙◌}
use mathlib.Core.List.{List, []}
use lib.ListN.{length}
use Rattle.view.specs.View.{place}
use Rattle.view.specs.declared.Place.{Place}
use Rattle.view.specs.declared.Position.{Position}
use Rattle.tiling.specs.Tiling.{table_position}
use Rattle.record_calls.specs.Records.{read_by}
use Rattle.scopes.specs.declared.LaneCall.{LaneCall}
use Rattle.lane_calls.specs.Decided.{book_decided}
use Rattle.call_head.proofs.Heads.{nothing_there}
use Rattle.sheet_calls.specs.Calls.{table_decided}
use Rattle.sheet_calls.proofs.Active.{acts_counted, acts_within, idle_refused}
use Rattle.sheet_calls.proofs.Rans.{ran_with}
use Rattle.sheet_calls.proofs.records.call_read.Goals as goal

pub call_active-requires : goal.call_active-requires
call_active-requires c = acts_within c.requires.state.0 (idle_refused c.args.caller.seen c.read-change.ensures (λ z. rw z))

pub returns : goal.returns
unfolding table_decided book_decided
returns c =
    let s = c.args.caller.seen in
    let t = c.args.table in
    let there = c.position-position.ensures.is ∙ ap (λ (n : ℕ). table_position t.tiling t.records.now (place n)) (c.from.ensures ∙ ap (λ (p : Place). p.0) c.place_in.ensures) in
    λ (lane : ℕ) (flags sheet : List ℕ) (inside : _ ≤ length sheet). ran_with LaneCall.Read [] c.call_active.ensures
    (acts_counted c.requires.state.0 (idle_refused s c.read-change.ensures (λ z. rw z)))
    (nothing_there sheet _ inside) refl (c.read-change.ensures ∙ ap (λ (p : Position). read_by s p c.args.book.now s.phase) there) refl c.put_read-end.ensures
