-- What is told of a line in state bytes, from what its bytes are.
use Rattle.std.specs.Prelude.{Some, None}
use Prim.Native.Nat.{ℕ, ◌+◌, ◌*◌, ◌≤◌, ◌<◌}
use mathlib.Core.Path.{◌≡◌, sym, ap}
use mathlib.Core.Bool.{true}
use mathlib.Core.List.{List}
use native.Mathlib.Omega.{arith}
use lib.ListN.{get_or}
use borrow.Author.Tests.{le-ltb, lt-ltb}
use Rattle.limits.specs.Limits.{most_lanes}
use Rattle.event.specs.BigEndian.{number_of}
use Rattle.event.specs.Typed.{AreBytes}
use Rattle.decode_fields.proofs.Numbers.{number_of_one}
use Rattle.state_bytes.specs.StateBytes.{entries_at, is_state, number_at}
use Rattle.state_bytes.proofs.Lengths.{state_long}
use Rattle.state_bytes.proofs.RoundTrip.{entry_there}
use Rattle.state_calls.specs.Told.{lane_if_any}

module _ (state : List ℕ) (i : ℕ) (e : is_state state ≡ true) where
  -- N is the byte at 8
  lanes_byte : number_at 8 1 state ≡ get_or state 8 0
  lanes_byte = number_of_one state 8 (omega (arith, state_long state e))

  pub no_lane : get_or state 8 0 ≤ i → None ≡ lane_if_any state i
  no_lane h = rw (e, lanes_byte, le-ltb i (get_or state 8 0) h)

  pub past_all : i < get_or state 8 0 → most_lanes ≤ i → None ≡ lane_if_any state i
  past_all h k = rw (e, lanes_byte, lt-ltb i (get_or state 8 0) h, le-ltb i most_lanes k)

  pub its_entry : AreBytes state → i < get_or state 8 0 → i < most_lanes → Some (number_at (entries_at + 8 * i) 8 state) ≡ lane_if_any state i
  its_entry a h k = rw (e, lanes_byte, lt-ltb i (get_or state 8 0) h, lt-ltb i most_lanes k) (ap (λ (n : ℕ). Some n) (sym (ap number_of (entry_there state a e i k))))
