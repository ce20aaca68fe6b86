-- Fields stored one after the other are the fields stored together.
use Prim.Native.Nat.{ℕ, ◌+◌, ◌/◌, ◌%◌, ◌^◌, ◌<◌}
use mathlib.Core.Path.{◌≡◌, refl, sym, ◌∙◌, ap}
use mathlib.Core.List.{List, [], ◌∷◌, ◌++◌, append_assoc, append-nil}
use native.Mathlib.Nat.{div-one}
use native.Mathlib.Numerals.{add-one}
use native.Mathlib.Omega.{arith}
use lib.ListN.{length, length-append, replicate, set}
use Rattle.lists.proofs.Sets.{sets_append}
use Rattle.event.specs.BigEndian.{big_endian}
use Rattle.view.specs.declared.Block.{Block}
use Rattle.event.specs.Event.{block_list, block_numbers, bytes_of}
use Rattle.event.proofs.Blocks.{block_numbers_length, eight_are}
use Rattle.event.proofs.Fields.{bytes_length, total}
use Rattle.event.proofs.Numbers.{big_endian_split}
use Rattle.encode_fields.specs.Put.{put_fields}

bytes_append : (ns vs ms ws : List ℕ) → length ns ≡ length vs → bytes_of (ns ++ ms) (vs ++ ws) ≡ bytes_of ns vs ++ bytes_of ms ws
unfolding bytes_of
bytes_append [] [] ms ws h = refl
bytes_append [] (v ∷ vs) ms ws h = absurd (omega arith)
bytes_append (n ∷ ns) [] ms ws h = absurd (omega arith)
bytes_append (n ∷ ns) (v ∷ vs) ms ws h =
    rw (bytes_append ns vs ms ws (omega arith), append_assoc (big_endian n v) (bytes_of ns vs) (bytes_of ms ws))

-- what a writer of fields left
pub record Put (lengths fields before : List ℕ) (at : ℕ) (after : List ℕ) : Type 0 where
  pub left : after ≡ put_fields lengths fields before at

pub put : {lengths fields before after : List ℕ} {at : ℕ} → after ≡ put_fields lengths fields before at → Put lengths fields before at after
put e = record { left = e }

put_both : (ns vs ms ws before : List ℕ) (at to : ℕ) → length ns ≡ length vs → at + total ns ≡ to
    → put_fields ms ws (put_fields ns vs before at) to ≡ put_fields (ns ++ ms) (vs ++ ws) before at
unfolding put_fields
put_both ns vs ms ws before at to h e =
    let end : at + length (bytes_of ns vs) ≡ to = ap (λ (n : ℕ). at + n) (bytes_length ns vs h) ∙ e in
    rw (← end, bytes_append ns vs ms ws h) (sets_append (bytes_of ns vs) (bytes_of ms ws) before at)

-- fields stored from where those before them end
pub and_then : {ns vs ms ws before middle after : List ℕ} {at to : ℕ} → Put ns vs before at middle → Put ms ws middle to after
    → length ns ≡ length vs
    → at + total ns ≡ to
    → Put (ns ++ ms) (vs ++ ws) before at after
and_then {ns} {vs} {ms} {ws} {before} {middle} {after} {at} {to} a b h e =
    record { left = b.left ∙ rw a.left (put_both ns vs ms ws before at to h e) }

-- ---- one number
pub one_byte : (buffer : List ℕ) (at v : ℕ) → set buffer at v ≡ put_fields (1 ∷ []) (v ∷ []) buffer at
unfolding put_fields bytes_of big_endian
one_byte buffer at v = rw (div-one v)

pub two_bytes : (buffer : List ℕ) (at v : ℕ) → set (set buffer at (v / 256)) (at + 1) (v % 256) ≡ put_fields (2 ∷ []) (v ∷ []) buffer at
unfolding put_fields bytes_of big_endian
two_bytes buffer at v = rw (div-one (v % 256), add-one at)

halves_together : (before : List ℕ) (at n v : ℕ) → v < 256 ^ (n + n)
    → put_fields (n ∷ n ∷ []) (v / 256 ^ n ∷ v % 256 ^ n ∷ []) before at ≡ put_fields ((n + n) ∷ []) (v ∷ []) before at
unfolding put_fields bytes_of
halves_together before at n v h =
    rw (big_endian_split n n v h, append-nil (big_endian n (v % 256 ^ n)), append-nil (big_endian n (v / 256 ^ n) ++ big_endian n (v % 256 ^ n)))

pub halves_4 : (before : List ℕ) (at v : ℕ) → v < 4294967296
    → put_fields (2 ∷ 2 ∷ []) (v / 65536 ∷ v % 65536 ∷ []) before at ≡ put_fields (4 ∷ []) (v ∷ []) before at
halves_4 before at v h = halves_together before at 2 v h

pub halves_8 : (before : List ℕ) (at v : ℕ) → v < 18446744073709551616
    → put_fields (4 ∷ 4 ∷ []) (v / 4294967296 ∷ v % 4294967296 ∷ []) before at ≡ put_fields (8 ∷ []) (v ∷ []) before at
halves_8 before at v h = halves_together before at 4 v h

-- ---- two fields
pub total_both : (ns ms : List ℕ) → total (ns ++ ms) ≡ total ns + total ms
total_both [] ms = omega arith
total_both (n ∷ ns) ms = omega (arith, total_both ns ms)

pub counted_both : (vs ns ws ms : List ℕ) → length vs ≡ length ns → length ws ≡ length ms → length (vs ++ ws) ≡ length (ns ++ ms)
counted_both vs ns ws ms e f = omega (arith, length-append vs ws, length-append ns ms)

pub put_pair : (ns vs ms ws before middle after : List ℕ) (at to : ℕ) → length vs ≡ length ns → to ≡ at + total ns → middle ≡ put_fields ns vs before at
    → after ≡ put_fields ms ws middle to
    → after ≡ put_fields (ns ++ ms) (vs ++ ws) before at
put_pair ns vs ms ws before middle after at to h e a b = (and_then (put a) (put b) (sym h) (sym e)).left

-- ---- the eight blocks of a view
pub eight_counted : (bs : List Block) → length bs ≡ 8 → length (block_numbers bs) ≡ 16
eight_counted bs h = omega (arith, block_numbers_length bs)

pub eight_put : (bs : List Block) (before after : List ℕ) (at : ℕ) → length bs ≡ 8
    → after ≡ put_fields (replicate 16 2) (block_numbers (block_list bs)) before at
    → after ≡ put_fields (replicate 16 2) (block_numbers bs) before at
eight_put bs before after at h e = e ∙ ap (λ (l : List Block). put_fields (replicate 16 2) (block_numbers l) before at) (eight_are bs h)
