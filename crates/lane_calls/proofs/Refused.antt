-- The book after a refusal.
use Prim.Native.Nat.{ℕ}
use mathlib.Core.Path.{◌≡◌, refl}
use mathlib.Core.List.{List}
use Rattle.steps.specs.declared.Answer.{Answer}
use Rattle.scopes.specs.declared.LaneCall.{LaneCall}
use Rattle.lane_calls.specs.Decided.{book_decided}

-- a refusal leaves the book as it is, whatever the call
pub refused_book : (call : LaneCall) (book : List ℕ) (k : ℕ) → book ≡ book_decided call book (Answer.Refused k)
unfolding book_decided
refused_book (LaneCall.Want purpose) book k = refl
refused_book LaneCall.Receive book k = refl
refused_book (LaneCall.Take c) book k = refl
refused_book (LaneCall.Write content) book k = refl
refused_book LaneCall.Read book k = refl
refused_book (LaneCall.Put p content) book k = refl
refused_book (LaneCall.Look p) book k = refl
refused_book LaneCall.Free book k = refl
