-- A line's state is read back as that line, and bytes that are a line's are its state: for every line and every byte string.
use Prim.Native.Nat.{ℕ, zero, suc, ◌+◌, ◌*◌, ◌≤◌, ◌<◌}
use mathlib.Core.Path.{◌≡◌, refl, sym, ap, subst, ◌∙◌}
use mathlib.Core.Bool.{true}
use mathlib.Core.List.{List, [], ◌∷◌, ◌++◌, append_assoc, map}
use native.Mathlib.Nat.{add-zero, zero-add}
use native.Mathlib.Omega.{arith}
use lib.ListN.{drop, get_or, length, length-append, length-drop, take, get_or-map}
use lib.Seq.{drop_at, drop-drop, take-add, take_at}
use borrow.Author.Tests.{le-leb}
use Rattle.limits.specs.Limits.{most_lanes}
use Rattle.lists.specs.Lists.{all_pass}
use Rattle.lists.proofs.Counts.{all_get_d, is_same, same_is}
use Rattle.lists.proofs.Tests.{and_left, and_right}
use Rattle.view.specs.View.{block}
use Rattle.view.specs.declared.Block.{Block}
use Rattle.line.specs.Line.{Shaped, idle_lane}
use Rattle.line.specs.declared.Lane.{Lane}
use Rattle.line.specs.declared.Line.{Line}
use Rattle.line.specs.declared.Phase.{Phase}
use Rattle.line.specs.declared.Purpose.{Purpose}
use Rattle.event.specs.Event.{block_numbers, bytes_of, fields_in}
use Rattle.event.specs.Typed.{AreBytes}
use Rattle.event.proofs.Blocks.{eight_are}
use Rattle.event.proofs.Fields.{bytes_drop, bytes_of_fields, fields_of_any}
use Rattle.steps.specs.Effects.{purpose_of}
use Rattle.state_bytes.specs.StateBytes.{entries_at, entries_in, entries_of, entry_bytes, entry_lengths, entry_numbers, flags_at, head_lengths, head_numbers, is_entry, is_state, lane_of, lanes_in, line_in, number_at, phase_of, purpose_number, state_bytes, state_length, view_in}
use Rattle.state_bytes.proofs.Walk.{entry_length}
use Rattle.state_bytes.proofs.Lengths.{entries_length, head_counted, head_length, parts_of, state_length_lem, state_long}

-- ---- an entry
purpose_back : (p : Purpose) → purpose_of (purpose_number p) ≡ p
purpose_back Purpose.SharedWrite = refl
purpose_back Purpose.SharedRead = refl
purpose_back Purpose.WholeBook = refl

pub phase_back : (x : Phase) → phase_of (entry_numbers x) ≡ x
phase_back Phase.Idle = refl
phase_back (Phase.Waiting p) = rw (purpose_back p)
phase_back (Phase.Woken p k) = rw (purpose_back p)
phase_back (Phase.Holding p k) = rw (purpose_back p)
phase_back (Phase.BusyWriting n k) = rw (add-zero n)
phase_back (Phase.BusyReading n k) = rw (add-zero n)
phase_back (Phase.Gathered n) = rw (zero-add n)

entry_ok : (x : Phase) → is_entry (entry_numbers x) ≡ true
entry_ok x = rw (phase_back x) (is_same (entry_numbers x))

-- ---- entries
numbers_of : Lane → List ℕ
numbers_of x = entry_numbers x.phase

entries_back : (lanes : List Lane) (rest : List ℕ) → entries_in (length lanes) (entries_of lanes ++ rest) ≡ map numbers_of lanes
unfolding entries_in entries_of numbers_of
entries_back [] rest = refl
entries_back (x ∷ xs) rest =
    rw (
      append_assoc (entry_bytes x) (entries_of xs) rest,
      fields_of_any entry_lengths (entry_numbers x.phase) (entries_of xs ++ rest) refl refl,
      drop_at (entry_bytes x) (entries_of xs ++ rest) 8 (entry_length x),
      entries_back xs rest,
    )

lanes_back : (lanes : List Lane) → map lane_of (map numbers_of lanes) ≡ lanes
unfolding numbers_of
lanes_back [] = refl
lanes_back (x ∷ xs) = rw (phase_back x.phase, lanes_back xs)

all_entries : (lanes : List Lane) → all_pass is_entry (map numbers_of lanes) ≡ true
unfolding numbers_of
all_entries [] = refl
all_entries (x ∷ xs) = rw (entry_ok x.phase) (all_entries xs)

-- bytes of which each eight are an entry are those of the lanes that they name
entries_forth : (n : ℕ) (bytes : List ℕ) → AreBytes bytes → 8 * n ≤ length bytes → all_pass is_entry (entries_in n bytes) ≡ true
    → entries_of (map lane_of (entries_in n bytes)) ≡ take (8 * n) bytes
unfolding entries_in entries_of
entries_forth zero bytes a room ok = refl
entries_forth (suc n) bytes a room ok =
    let first = fields_in entry_lengths bytes in
    let same : first ≡ entry_numbers (phase_of first) = same_is first (entry_numbers (phase_of first)) (and_left (is_entry first) _ ok) in
    let eight : 8 ≤ length bytes = omega arith in
    let left : 8 * n ≤ length (drop 8 bytes) = simp length-drop (omega arith) in
    let front : bytes_of entry_lengths (entry_numbers (phase_of first)) ≡ take 8 bytes = ap (bytes_of entry_lengths) (sym same) ∙ bytes_of_fields entry_lengths bytes a eight in
    let more : 8 * suc n ≡ 8 + 8 * n = omega arith in
    rw (front, entries_forth n (drop 8 bytes) (bytes_drop 8 bytes a) left (and_right (is_entry first) _ ok), more) (sym (take-add 8 (8 * n) bytes))

-- ---- the head
-- the numbers of the head, each by the index of its first byte
abbrev numbers_at : List ℕ → List ℕ
numbers_at bytes =
    number_at 0 4 bytes ∷ number_at 4 4 bytes ∷ number_at 8 1 bytes ∷ number_at 9 4 bytes ∷ number_at 13 4 bytes ∷ number_at 17 4 bytes
    ∷ number_at 21 4 bytes ∷ number_at 25 2 bytes ∷ number_at 27 1 bytes ∷ number_at 28 2 bytes ∷ number_at 30 2 bytes ∷ number_at 32 2 bytes
    ∷ number_at 34 2 bytes ∷ number_at 36 2 bytes ∷ number_at 38 2 bytes ∷ number_at 40 2 bytes ∷ number_at 42 2 bytes ∷ number_at 44 2 bytes
    ∷ number_at 46 2 bytes ∷ number_at 48 2 bytes ∷ number_at 50 2 bytes ∷ number_at 52 2 bytes ∷ number_at 54 2 bytes ∷ number_at 56 2 bytes
    ∷ number_at 58 2 bytes ∷ number_at 60 4 bytes ∷ []

-- fields one after the other, each by the index of its first byte
numbers_from : List ℕ → ℕ → List ℕ → List ℕ
numbers_from [] at bytes = []
numbers_from (n ∷ ns) at bytes = number_at at n bytes ∷ numbers_from ns (at + n) bytes

fields_from : (ns : List ℕ) (at : ℕ) (bytes : List ℕ) → numbers_from ns at bytes ≡ fields_in ns (drop at bytes)
unfolding numbers_from fields_in
fields_from [] at bytes = refl
fields_from (n ∷ ns) at bytes = rw (drop-drop n at bytes, fields_from ns (at + n) bytes)

head_read : (bytes : List ℕ) → numbers_at bytes ≡ fields_in head_lengths bytes
unfolding numbers_from
head_read bytes = fields_from head_lengths 0 bytes

head_back : (l : Line) (rest : List ℕ) → length l.view.block ≡ 8 → numbers_at (bytes_of head_lengths (head_numbers l) ++ rest) ≡ head_numbers l
head_back l rest h =
    head_read (bytes_of head_lengths (head_numbers l) ++ rest) ∙ fields_of_any head_lengths (head_numbers l) rest (head_counted l h) refl

-- the eight blocks, and what follows them, among the numbers of a head
blocks_of : List ℕ → List Block
blocks_of v =
    block (get_or v 0 0) (get_or v 1 0) ∷ block (get_or v 2 0) (get_or v 3 0) ∷ block (get_or v 4 0) (get_or v 5 0) ∷ block (get_or v 6 0) (get_or v 7 0)
    ∷ block (get_or v 8 0) (get_or v 9 0) ∷ block (get_or v 10 0) (get_or v 11 0) ∷ block (get_or v 12 0) (get_or v 13 0) ∷ block (get_or v 14 0) (get_or v 15 0) ∷ []

eight_back : (bs : List Block) (n : ℕ) → length bs ≡ 8 → (blocks_of (block_numbers bs ++ n ∷ []) ≡ bs) × (get_or (block_numbers bs ++ n ∷ []) 16 0 ≡ n)
unfolding blocks_of
eight_back bs n h =
    subst (λ (l : List Block). (blocks_of (block_numbers l ++ n ∷ []) ≡ l) × (get_or (block_numbers l ++ n ∷ []) 16 0 ≡ n)) (eight_are bs h) (refl, refl)

-- ---- a line's state is read back as that line
-- the parts of the state where they stand
module _ (l : Line) (s : Shaped l) (more : List ℕ) where
  head : List ℕ
  head = bytes_of head_lengths (head_numbers l)

  whole : List ℕ
  whole = state_bytes l ++ more

  parted : whole ≡ head ++ (entries_of l.lane ++ (l.flag ++ more))
  unfolding head whole
  parted = append_assoc head (entries_of l.lane ++ l.flag) more ∙ ap (λ (t : List ℕ). head ++ t) (append_assoc (entries_of l.lane) l.flag more)

  numbers_there : numbers_at whole ≡ head_numbers l
  unfolding head
  numbers_there = ap (λ (b : List ℕ). numbers_at b) parted ∙ head_back l (entries_of l.lane ++ (l.flag ++ more)) s.blocks_length

  at_entries : drop entries_at whole ≡ entries_of l.lane ++ (l.flag ++ more)
  unfolding head
  at_entries = ap (drop entries_at) parted ∙ drop_at head (entries_of l.lane ++ (l.flag ++ more)) entries_at (head_length l s.blocks_length)

  entries_there : entries_in most_lanes (drop entries_at whole) ≡ map numbers_of l.lane
  entries_there =
      ap (entries_in most_lanes) at_entries ∙ ap (λ (n : ℕ). entries_in n (entries_of l.lane ++ (l.flag ++ more))) (sym s.lanes_length) ∙ entries_back l.lane (l.flag ++ more)

  flags_there : take most_lanes (drop flags_at whole) ≡ l.flag
  flags_there =
      let long : length (entries_of l.lane) ≡ 1024 = omega (arith, entries_length l.lane, s.lanes_length) in
      let there : drop flags_at whole ≡ l.flag ++ more =
      sym (drop-drop 1024 entries_at whole) ∙ ap (drop 1024) at_entries ∙ drop_at (entries_of l.lane) (l.flag ++ more) 1024 long in
      ap (take most_lanes) there ∙ take_at l.flag more most_lanes s.flags_length

  -- the k-th number of the head
  number_there : (k : ℕ) → get_or (numbers_at whole) k 0 ≡ get_or (head_numbers l) k 0
  number_there k = ap (λ (v : List ℕ). get_or v k 0) numbers_there

  blocks_there : (view_in whole).block ≡ l.view.block
  unfolding blocks_of
  blocks_there = ap (λ (v : List ℕ). blocks_of (drop 9 v)) numbers_there ∙ (eight_back l.view.block 0 s.blocks_length).0

  -- it is one, and the line that it is
  pub state_told : is_state (state_bytes l ++ more) ≡ true
  unfolding is_state whole
  state_told =
      let long : state_length ≤ length whole = omega (arith, length-append (state_bytes l) more, state_length_lem l s) in
      let reserved : number_at 60 4 whole ≡ 0 = number_there 25 ∙ (eight_back l.view.block 0 s.blocks_length).1 in
      rw (le-leb state_length (length whole) long, number_there 0, number_there 1, reserved, entries_there, all_entries l.lane)

  pub state_read : line_in (state_bytes l ++ more) ≡ l
  unfolding whole
  state_read =
      rw (number_there 2, number_there 3, number_there 4, number_there 5, number_there 6, number_there 7, number_there 8, blocks_there, entries_there, lanes_back l.lane, flags_there)

-- ---- bytes that are a line's are its state
head_forth : (bytes : List ℕ) → AreBytes bytes → is_state bytes ≡ true → bytes_of head_lengths (head_numbers (line_in bytes)) ≡ take 64 bytes
head_forth bytes a e =
    let p = parts_of bytes e in
    let room : 64 ≤ length bytes = omega (arith, state_long bytes e) in
    let same : head_numbers (line_in bytes) ≡ numbers_at bytes = rw (p.marked, p.laid, p.reserved) in
    ap (bytes_of head_lengths) (same ∙ head_read bytes) ∙ bytes_of_fields head_lengths bytes a room

pub state_written : (bytes : List ℕ) → AreBytes bytes → is_state bytes ≡ true → state_bytes (line_in bytes) ≡ take state_length bytes
state_written bytes a e =
    let long = state_long bytes e in
    let room : 8 * most_lanes ≤ length (drop entries_at bytes) = simp length-drop (omega arith) in
    let entries = entries_forth most_lanes (drop entries_at bytes) (bytes_drop entries_at bytes a) room (parts_of bytes e).entries in
    rw (head_forth bytes a e, entries, ← drop-drop 1024 entries_at bytes) (sym (take-add 64 1152 bytes ∙ ap (λ (t : List ℕ). take 64 bytes ++ t) (take-add 1024 128 (drop 64 bytes))))

-- no two byte strings are one line
pub one_state : (a b : List ℕ) → AreBytes a → AreBytes b → is_state a ≡ true → is_state b ≡ true → line_in a ≡ line_in b → take state_length a ≡ take state_length b
one_state a b fa fb ea eb same = sym (state_written a fa ea) ∙ ap (λ (l : Line). state_bytes l) same ∙ state_written b fb eb

-- no two lines have one state
pub one_line : (l m : Line) → Shaped l → Shaped m → state_bytes l ≡ state_bytes m → l ≡ m
one_line l m s t same = sym (state_read l s []) ∙ ap (λ (b : List ℕ). line_in (b ++ [])) same ∙ state_read m t []

-- ---- one lane's entry
no_entry : List ℕ
no_entry = 0 ∷ 0 ∷ 0 ∷ 0 ∷ []

entry_of : (n i : ℕ) (bytes : List ℕ) → i < n → get_or (entries_in n bytes) i no_entry ≡ fields_in entry_lengths (drop (8 * i) bytes)
unfolding entries_in
entry_of zero i bytes h = absurd (omega arith)
entry_of (suc n) zero bytes h = refl
entry_of (suc n) (suc i) bytes h =
    let next : 8 * suc i ≡ 8 + 8 * i = omega arith in
    entry_of n i (drop 8 bytes) (omega arith) ∙ rw (next, drop-drop (8 * i) 8 bytes)

-- the bytes of a lane's entry, in a state, are those of its phase
pub entry_there : (bytes : List ℕ) → AreBytes bytes → is_state bytes ≡ true → (i : ℕ) → i < most_lanes
    → entry_bytes (get_or (lanes_in bytes) i idle_lane) ≡ take 8 (drop (entries_at + 8 * i) bytes)
unfolding no_entry
entry_there bytes a e i h =
    let all = entries_in most_lanes (drop entries_at bytes) in
    let here = drop (entries_at + 8 * i) bytes in
    let numbers = fields_in entry_lengths here in
    let found : get_or all i no_entry ≡ numbers = entry_of most_lanes i (drop entries_at bytes) h ∙ rw (drop-drop (8 * i) entries_at bytes) in
    let ok : is_entry (get_or all i no_entry) ≡ true = all_get_d is_entry all i no_entry (parts_of bytes e).entries refl in
    let same : numbers ≡ entry_numbers (phase_of numbers) = same_is numbers (entry_numbers (phase_of numbers)) (rw found at ok) in
    let room : 8 ≤ length here = simp length-drop (omega (arith, state_long bytes e)) in
    let named : get_or (lanes_in bytes) i idle_lane ≡ lane_of numbers = get_or-map lane_of all i no_entry ∙ ap (λ (v : List ℕ). lane_of v) found in
    ap (λ (x : Lane). entry_bytes x) named ∙ ap (bytes_of entry_lengths) (sym same) ∙ bytes_of_fields entry_lengths here (bytes_drop (entries_at + 8 * i) bytes a) room
