-- The kind and the lane of a call at an index of a sheet. Tied to `read_at` by call_head/Heads: headed_read, by which the event there is that of the kind, the lane and the fields past it.
use Rattle.std.specs.Prelude.{Option, Some, None, ℕ, ◌+◌, ◌≤◌, ◌≡◌, Bool, true, List, [], ◌∷◌, drop, length}
use Rattle.event.specs.Kinds.{field_lengths, kind_at}
use Rattle.event.specs.ReadWrite.{event_read, read_at}
use Rattle.event.specs.declared.Cursor.{Cursor}
use Rattle.event.specs.declared.Event.{Event}
use Rattle.decode_fields.specs.Fields.{fields_at, total, values}
use Rattle.scopes.specs.Scope.{scope_of}
use Rattle.scopes.specs.declared.LaneCall.{LaneCall}
use Rattle.scopes.specs.declared.Scope.{Scope}
use Rattle.call_head.specs.declared.Head.{Head}

-- the kinds whose first field is a lane, and the lengths of their fields past it
abbrev pub lane_kind : ℕ → Bool
lane_kind kind = (kind_at kind).names_lane

abbrev pub rest_of : ℕ → List ℕ
rest_of kind = drop 1 (field_lengths kind)

-- a call that names a lane, which the sheet has whole
pub record Headed (sheet : List ℕ) (at : ℕ) (h : Head) : Type 0 where
  pub fields : fields_at (1 ∷ 1 ∷ []) sheet at ≡ values (h.kind ∷ h.lane ∷ []) h.to
  pub kind : lane_kind h.kind ≡ true
  pub room : h.to + total (rest_of h.kind) ≤ length sheet

-- an event at an index, if there is one, is no call of a lane, of the kinds 02 to 09
abbrev pub NoLane : List ℕ → ℕ → Type 0
NoLane sheet at = (e : Event) (next : Cursor) (lane : ℕ) (call : LaneCall) → read_at sheet at ≡ event_read e next → scope_of e ≡ Scope.Lane lane call → ⊥

pub record HeadMeets (sheet : List ℕ) (at : ℕ) (r : Option Head) : Type 0 where
  pub call : (h : Head) → r ≡ Some h → Headed sheet at h
  pub other : r ≡ None → NoLane sheet at
