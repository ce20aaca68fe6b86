-- What an event calls, and the event of a call. Tied to `Event` by scopes/Scopes: scope_event, by which an event is the event of what it calls.
use Rattle.std.specs.Prelude.{ℕ}
use Rattle.event.specs.declared.Event.{Event}
use Rattle.scopes.specs.declared.LaneCall.{LaneCall}
use Rattle.scopes.specs.declared.LineCall.{LineCall}
use Rattle.scopes.specs.declared.Scope.{Scope}

abbrev pub scope_of : Event → Scope
scope_of (Event.Open lanes capacity) = Scope.Line (LineCall.Open lanes capacity)
scope_of (Event.Want i purpose) = Scope.Lane i (LaneCall.Want purpose)
scope_of (Event.Receive i) = Scope.Lane i LaneCall.Receive
scope_of (Event.Take i c) = Scope.Lane i (LaneCall.Take c)
scope_of (Event.Write i content) = Scope.Lane i (LaneCall.Write content)
scope_of (Event.Read i) = Scope.Lane i LaneCall.Read
scope_of (Event.Put i k content) = Scope.Lane i (LaneCall.Put k content)
scope_of (Event.Look i k) = Scope.Lane i (LaneCall.Look k)
scope_of (Event.Free i) = Scope.Lane i LaneCall.Free
scope_of (Event.Enter i c) = Scope.Line (LineCall.Enter i c)
scope_of (Event.View displacement extent used blocks) = Scope.Line (LineCall.View displacement extent used blocks)
scope_of (Event.Seek whence offset) = Scope.Line (LineCall.Seek whence offset)
scope_of Event.Unlisted = Scope.Unlisted

-- the event of a call of lane i, and of one on the whole line
abbrev pub lane_event : ℕ → LaneCall → Event
lane_event i (LaneCall.Want purpose) = Event.Want i purpose
lane_event i LaneCall.Receive = Event.Receive i
lane_event i (LaneCall.Take c) = Event.Take i c
lane_event i (LaneCall.Write content) = Event.Write i content
lane_event i LaneCall.Read = Event.Read i
lane_event i (LaneCall.Put k content) = Event.Put i k content
lane_event i (LaneCall.Look k) = Event.Look i k
lane_event i LaneCall.Free = Event.Free i

abbrev pub line_event : LineCall → Event
line_event (LineCall.Open lanes capacity) = Event.Open lanes capacity
line_event (LineCall.Enter i c) = Event.Enter i c
line_event (LineCall.View displacement extent used blocks) = Event.View displacement extent used blocks
line_event (LineCall.Seek whence offset) = Event.Seek whence offset

abbrev pub event_in : Scope → Event
event_in (Scope.Lane i call) = lane_event i call
event_in (Scope.Line call) = line_event call
event_in Scope.Unlisted = Event.Unlisted
