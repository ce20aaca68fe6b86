-- What the loops over entries have left, arrays made from a function of the index, and a part of a list written over.
use Prim.Native.Nat.{ℕ, zero, suc, ◌+◌, ◌-◌, ◌*◌, ◌≤◌, ◌<◌}
use mathlib.Core.Path.{◌≡◌, refl, ap, subst, ◌∙◌}
use mathlib.Core.Bool.{true, false}
use mathlib.Core.List.{List, [], ◌∷◌, append_assoc, map}
use native.Mathlib.Omega.{arith}
use lib.ListN.{drop, get_or, length, take}
use lib.Seq.{drop-drop}
use borrow.Rule.Slice.PartMut.{put_mid}
use denote.Param.Members.{Called, Mut}
use Rattle.std.specs.Array.{IsFromFnResult, IsFromFnResultFrom}
use Rattle.std.specs.List.{range_with_len}
use Rattle.std.proofs.lemmas.List.Edits.{sets, sets-eq}
use Rattle.lists.specs.Lists.{all_pass}
use Rattle.lists.proofs.Loops.{drop_end}
use Rattle.lists.proofs.Parts.{drop_more}
use Rattle.lists.proofs.Sets.{sets_append}
use Rattle.line.specs.Line.{idle_lane}
use Rattle.line.specs.declared.Lane.{Lane}
use Rattle.event.specs.Event.{fields_in}
use Rattle.event.proofs.Fields.{bytes_length}
use Rattle.decode_fields.proofs.Numbers.{number_of_one}
use Rattle.state_bytes.specs.StateBytes.{entries_in, entries_of, entry_bytes, entry_lengths, entry_numbers, is_entry, lane_at, lane_of, number_at}

-- ---- an array made from a function of the index
module _ {F B : Type 0} (g : Mut F (ℕ × Unit {0}) B) (h : ℕ → B) (f : F) (n : ℕ) (step : (i : ℕ) (y : B) (f' : F) → i < n → Called g f (i, tt) y f' → (y ≡ h i) × (f' ≡ f)) where
  made_from : (ys : List B) (p : F) (i k : ℕ) → p ≡ f → i + k ≡ n → length ys ≡ n → IsFromFnResultFrom g p ys i k → drop i ys ≡ map h (range_with_len i k)
  made_from ys p i zero e s l made = drop_end ys i (omega arith)
  made_from ys p i (suc k) e s l made =
      let call = subst (λ (q : F). Called g q (i, tt) made.1 made.0) e made.3 in
      let one = step i made.1 made.0 (omega arith) call in
      let there : i < length ys = omega arith in
      rw (drop_more ys i made.1 there, made.2.0, one.0, made_from ys made.0 (i + 1) k one.1 (omega arith) l made.4)

  pub made_by : (ys : List B) → IsFromFnResult g f ys n → ys ≡ map h (range_with_len 0 n)
  made_by ys made = made_from ys f 0 n refl (omega arith) made.long made.each

-- ---- entries read
-- the entries from the i-th of n on, the first of them at byte `at`
abbrev pub entries_from : List ℕ → ℕ → ℕ → ℕ → List (List ℕ)
entries_from bytes at n i = entries_in (n - i) (drop (at + 8 * i) bytes)

module _ (bytes : List ℕ) (at n i : ℕ) where
  pub entries_more : i < n → entries_from bytes at n i ≡ fields_in entry_lengths (drop (at + 8 * i) bytes) ∷ entries_from bytes at n (i + 1)
  unfolding entries_in
  entries_more h =
      let left : n - i ≡ suc (n - (i + 1)) = omega arith in
      let next : at + 8 * i + 8 ≡ at + 8 * (i + 1) = omega arith in
      rw (left, drop-drop 8 (at + 8 * i) bytes, next)

  pub entries_end : n ≤ i → entries_from bytes at n i ≡ []
  unfolding entries_in
  entries_end h = let left : n - i ≡ 0 = omega arith in rw left

  pub ok_stop : i < n → is_entry (fields_in entry_lengths (drop (at + 8 * i) bytes)) ≡ false → all_pass is_entry (entries_from bytes at n i) ≡ false
  ok_stop h e = ap (all_pass is_entry) (entries_more h) ∙ rw e

  pub ok_more : i < n → is_entry (fields_in entry_lengths (drop (at + 8 * i) bytes)) ≡ true
      → all_pass is_entry (entries_from bytes at n i) ≡ all_pass is_entry (entries_from bytes at n (i + 1))
  ok_more h e = ap (all_pass is_entry) (entries_more h) ∙ rw e

  pub ok_end : n ≤ i → all_pass is_entry (entries_from bytes at n i) ≡ true
  ok_end h = ap (all_pass is_entry) (entries_end h)

lanes_from : (bytes : List ℕ) (at i n : ℕ) → map (λ (k : ℕ). lane_at (at + 8 * k) bytes) (range_with_len i n) ≡ map lane_of (entries_in n (drop (at + 8 * i) bytes))
unfolding entries_in
lanes_from bytes at i zero = refl
lanes_from bytes at i (suc n) =
    let next : at + 8 * i + 8 ≡ at + 8 * (i + 1) = omega arith in
    rw (drop-drop 8 (at + 8 * i) bytes, next, lanes_from bytes at (i + 1) n)

pub lanes_are : (bytes : List ℕ) (at n : ℕ) → map (λ (k : ℕ). lane_at (at + 8 * k) bytes) (range_with_len 0 n) ≡ map lane_of (entries_in n (drop at bytes))
lanes_are bytes at n =
    let start : at + 8 * 0 ≡ at = omega arith in
    rw start at (lanes_from bytes at 0 n)

-- ---- entries stored
pub entry_length : (x : Lane) → length (entry_bytes x) ≡ 8
entry_length x = bytes_length entry_lengths (entry_numbers x.phase) refl

pub stored_more : (l : List ℕ) (lanes : List Lane) (at i : ℕ) → i < length lanes
    → sets (sets l (at + 8 * i) (entry_bytes (get_or lanes i idle_lane))) (at + 8 * (i + 1)) (entries_of (drop (i + 1) lanes)) ≡ sets l (at + 8 * i) (entries_of (drop i lanes))
unfolding entries_of
stored_more l lanes at i h =
    let x = get_or lanes i idle_lane in
    let next : at + 8 * (i + 1) ≡ at + 8 * i + length (entry_bytes x) = omega (arith, entry_length x) in
    rw (next, drop_more lanes i idle_lane h) (sets_append (entry_bytes x) (entries_of (drop (i + 1) lanes)) l (at + 8 * i))

pub stored_end : (l : List ℕ) (lanes : List Lane) (at i : ℕ) → length lanes ≤ i → sets l at (entries_of (drop i lanes)) ≡ l
unfolding entries_of
stored_end l lanes at i h = rw (drop_end lanes i h)

-- ---- flags stored
-- a part of a list written over
pub part_stored : (xs ys : List ℕ) (a k : ℕ) → length ys ≡ k → a + k ≤ length xs → put_mid a k xs ys ≡ sets xs a ys
part_stored xs ys a k e h =
    let room : a + length ys ≤ length xs = omega arith in
    rw (sets-eq ys xs a room, e, drop-drop k a xs, append_assoc (take a xs) ys (drop (a + k) xs))

-- ---- the numbers of one entry
pub entry_fields : (bytes : List ℕ) (at records k : ℕ) → at + 8 ≤ length bytes → records ≡ number_at (at + 2) 2 bytes → k ≡ number_at (at + 4) 4 bytes
    → get_or bytes at 0 ∷ get_or bytes (at + 1) 0 ∷ records ∷ k ∷ [] ≡ fields_in entry_lengths (drop at bytes)
unfolding fields_in
entry_fields bytes at records k room e f =
    let two : at + 1 + 1 ≡ at + 2 = omega arith in
    let four : at + 2 + 2 ≡ at + 4 = omega arith in
    let first : at < length bytes = omega arith in
    let second : at + 1 < length bytes = omega arith in
    rw (e, f, drop-drop 1 at bytes, drop-drop 1 (at + 1) bytes, two, drop-drop 2 (at + 2) bytes, four, number_of_one bytes at first, number_of_one bytes (at + 1) second)
