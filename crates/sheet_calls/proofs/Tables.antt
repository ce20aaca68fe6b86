-- The changes by the view's table are those by the view.
use Prim.Native.Nat.{ℕ}
use mathlib.Core.Path.{◌≡◌, refl}
use mathlib.Core.List.{List}
use Rattle.view.specs.declared.View.{View}
use Rattle.line.specs.Line.{place_in}
use Rattle.tiling.specs.Tiling.{records_of, tiling_of}
use Rattle.tiling.proofs.Laws.{table_fits_lem, table_position_lem}
use Rattle.changes.specs.declared.Seen.{Seen}
use Rattle.scopes.specs.declared.LaneCall.{LaneCall}
use Rattle.lane_calls.specs.Decided.{decided_at}
use Rattle.sheet_calls.specs.Calls.{table_decided}

pub table_decided_lem : (s : Seen) (i : ℕ) (v : View) (flags book : List ℕ) (call : LaneCall) → table_decided s i (tiling_of v) (records_of v) flags book call ≡ decided_at s i v flags book call
unfolding table_decided decided_at
table_decided_lem s i v flags book (LaneCall.Want purpose) = refl
table_decided_lem s i v flags book LaneCall.Receive = refl
table_decided_lem s i v flags book (LaneCall.Take c) = rw (table_fits_lem v s.capacity (place_in s.phase) c)
table_decided_lem s i v flags book (LaneCall.Write content) = rw (table_position_lem v (place_in s.phase))
table_decided_lem s i v flags book LaneCall.Read = rw (table_position_lem v (place_in s.phase))
table_decided_lem s i v flags book (LaneCall.Put k content) = rw (table_position_lem v k)
table_decided_lem s i v flags book (LaneCall.Look k) = rw (table_position_lem v k)
table_decided_lem s i v flags book LaneCall.Free = refl
