-- The lengths of a state's parts, that its parts stored one after the other are the state, and what the test of a state says.
use Prim.Native.Nat.{ℕ, zero, suc, ◌+◌, ◌*◌, ◌≤◌}
use mathlib.Core.Path.{◌≡◌, refl, ap, ◌∙◌}
use mathlib.Core.Bool.{true}
use mathlib.Core.List.{List, [], ◌∷◌, ◌++◌}
use native.Mathlib.Omega.{arith}
use lib.Dec.{eqb, leb}
use lib.ListN.{drop, length, length-append, length-drop, length-map}
use lib.Seq.{length-take-le, sets}
use borrow.Author.Tests.{eqb-true, leb-true}
use Rattle.limits.specs.Limits.{most_lanes}
use Rattle.lists.specs.Lists.{all_pass}
use Rattle.lists.proofs.Sets.{sets_append}
use Rattle.lists.proofs.Tests.{every_nth}
use Rattle.line.specs.Line.{Shaped}
use Rattle.line.specs.declared.Lane.{Lane}
use Rattle.line.specs.declared.Line.{Line}
use Rattle.event.specs.Event.{block_numbers, bytes_of}
use Rattle.event.proofs.Blocks.{block_numbers_length}
use Rattle.event.proofs.Fields.{bytes_length}
use Rattle.state_bytes.specs.StateBytes.{entries_at, entries_in, entries_of, entry_bytes, flags_at, head_lengths, head_numbers, is_entry, is_state, lane_of, layout, line_in, mark, number_at, state_bytes, state_length}
use Rattle.state_bytes.proofs.Walk.{entry_length}

pub head_counted : (l : Line) → length l.view.block ≡ 8 → length head_lengths ≡ length (head_numbers l)
head_counted l h =
    omega (arith, block_numbers_length l.view.block, length-append (block_numbers l.view.block) (0 ∷ []))

pub head_length : (l : Line) → length l.view.block ≡ 8 → length (bytes_of head_lengths (head_numbers l)) ≡ 64
head_length l h = bytes_length head_lengths (head_numbers l) (head_counted l h)

pub entries_length : (lanes : List Lane) → length (entries_of lanes) ≡ 8 * length lanes
unfolding entries_of
entries_length [] = refl
entries_length (x ∷ xs) = omega (arith, length-append (entry_bytes x) (entries_of xs), entry_length x, entries_length xs)

pub state_length_lem : (l : Line) → Shaped l → length (state_bytes l) ≡ 1216
state_length_lem l s =
    let head = bytes_of head_lengths (head_numbers l) in
    omega
    (arith, length-append head (entries_of l.lane ++ l.flag), length-append (entries_of l.lane) l.flag, head_length l s.blocks_length, entries_length l.lane, s.lanes_length, s.flags_length)

-- the three parts of a state, each from where the one before it ends
pub parts_stored : (bytes : List ℕ) (l : Line) → Shaped l
    → sets (sets (sets bytes 0 (bytes_of head_lengths (head_numbers l))) 64 (entries_of l.lane)) 1088 l.flag ≡ sets bytes 0 (state_bytes l)
parts_stored bytes l s =
    let head = bytes_of head_lengths (head_numbers l) in
    let entries = entries_of l.lane in
    let first : 64 ≡ 0 + length head = omega (arith, head_length l s.blocks_length) in
    let second : 1088 ≡ 64 + length entries = omega (arith, entries_length l.lane, s.lanes_length) in
    rw (second, sets_append entries l.flag (sets bytes 0 head) 64, first) (sets_append head (entries ++ l.flag) bytes 0)

-- ---- what the test of a state says, part by part
pub record IsState (bytes : List ℕ) : Type 0 where
  pub long : state_length ≤ length bytes
  pub marked : number_at 0 4 bytes ≡ mark
  pub laid : number_at 4 4 bytes ≡ layout
  pub reserved : number_at 60 4 bytes ≡ 0
  pub entries : all_pass is_entry (entries_in most_lanes (drop entries_at bytes)) ≡ true

pub parts_of : (bytes : List ℕ) → is_state bytes ≡ true → IsState bytes
unfolding is_state
parts_of bytes e =
    let tests =
    leb state_length (length bytes)
    ∷ eqb (number_at 0 4 bytes) mark
    ∷ eqb (number_at 4 4 bytes) layout
    ∷ eqb (number_at 60 4 bytes) 0
    ∷ all_pass is_entry (entries_in most_lanes (drop entries_at bytes))
    ∷ [] in
    record {
      long = leb-true state_length (length bytes) (every_nth tests 0 e);
      marked = eqb-true (number_at 0 4 bytes) mark (every_nth tests 1 e);
      laid = eqb-true (number_at 4 4 bytes) layout (every_nth tests 2 e);
      reserved = eqb-true (number_at 60 4 bytes) 0 (every_nth tests 3 e);
      entries = every_nth tests 4 e;
    }

-- bytes that are a line's are as many
pub state_long : (bytes : List ℕ) → is_state bytes ≡ true → state_length ≤ length bytes
state_long bytes e = (parts_of bytes e).long

-- the line that bytes name has arrays of their lengths
entries_count : (n : ℕ) (bytes : List ℕ) → length (entries_in n bytes) ≡ n
unfolding entries_in
entries_count zero bytes = refl
entries_count (suc n) bytes = ap suc (entries_count n (drop 8 bytes))

pub line_shaped : (bytes : List ℕ) → state_length ≤ length bytes → Shaped (line_in bytes)
line_shaped bytes h =
    let room : most_lanes ≤ length (drop flags_at bytes) = simp length-drop (omega arith) in
    record {
      lanes_length = length-map (entries_in most_lanes (drop entries_at bytes)) lane_of ∙ entries_count most_lanes (drop entries_at bytes);
      flags_length = length-take-le most_lanes (drop flags_at bytes) room;
      blocks_length = refl;
    }
