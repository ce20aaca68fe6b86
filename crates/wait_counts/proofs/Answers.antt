-- A refusal counts nothing.
use Prim.Native.Nat.{ℕ}
use mathlib.Core.Path.{◌≡◌, refl}
use mathlib.Core.Bool.{false}
use mathlib.Core.List.{List}
use Rattle.lists.proofs.Tests.{clash}
use Rattle.steps.specs.Answer.{said_by}
use Rattle.steps.specs.declared.Answer.{Answer}
use Rattle.wait_counts.specs.Counts.{counted}

pub refused_count : (c : List ℕ) (i : ℕ) (a : Answer) → (said_by a).accepted ≡ false → counted c i a ≡ c
refused_count c i (Answer.Open lanes capacity) e = clash e
refused_count c i (Answer.Holds pointer) e = clash e
refused_count c i Answer.Waits e = clash e
refused_count c i (Answer.Region start count wakes) e = clash e
refused_count c i (Answer.Wrote position) e = clash e
refused_count c i (Answer.Record content) e = clash e
refused_count c i Answer.None e = clash e
refused_count c i (Answer.Freed wakes) e = clash e
refused_count c i Answer.Gathered e = clash e
refused_count c i (Answer.Ordered before total) e = clash e
refused_count c i Answer.View e = clash e
refused_count c i (Answer.Seek pointer) e = clash e
refused_count c i (Answer.Refused number) e = refl
