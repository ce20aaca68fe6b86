-- What writing leaves and answers: the event's bytes at the start, or a refusal.
use Rattle.event.specs.declared.Refusal.{Refusal}
use Rattle.std.specs.Prelude.{Ok, Err, Some, None, cond}
use Prim.Native.Nat.{ℕ, ◌+◌, ◌≤◌, ◌<◌}
use mathlib.Core.Path.{◌≡◌, refl, sym, ◌∙◌, ap}
use mathlib.Core.Bool.{Bool, true, false}
use mathlib.Core.List.{List, ◌∷◌, ◌++◌}
use native.Mathlib.Nat.{div-one, zero-add}
use native.Mathlib.Omega.{arith}
use lib.ListN.{drop, length}
use lib.Seq.{sets, sets-eq}
use borrow.Author.Tests.{le-leb, lt-leb}
use Rattle.event.specs.BigEndian.{big_endian}
use Rattle.event.specs.Kinds.{body_length, field_lengths, is_listed}
use Rattle.event.specs.Event.{bytes_of, event_bytes, fields_of, kind_of}
use Rattle.event.specs.ReadWrite.{Writing, writing_of, written_to}
use Rattle.event.specs.declared.Event.{Event}
use Rattle.event.proofs.ByKind.{EightBlocks}
use Rattle.event.proofs.RoundTrip.{body_length_lem}
use Rattle.encode_fields.specs.Put.{put_fields}
use Rattle.encode.specs.Written.{length_of_event, with_event}

-- ---- the buffer
kind_first : (kind : ℕ) (ns vs : List ℕ) → bytes_of (1 ∷ ns) (kind ∷ vs) ≡ kind ∷ bytes_of ns vs
unfolding bytes_of big_endian
kind_first kind ns vs = rw (div-one kind)

from_start : (bytes buffer : List ℕ) → length bytes ≤ length buffer → sets buffer 0 bytes ≡ bytes ++ drop (length bytes) buffer
from_start bytes buffer room = rw zero-add at (sets-eq bytes buffer 0 (omega arith))

-- ---- from what `length_of` answered
listed : (e : Event) (n : ℕ) → Some n ≡ length_of_event e → (is_listed (kind_of e) ≡ true) × (n ≡ 1 + body_length (kind_of e))
listed e n h = by_listed (is_listed (kind_of e)) refl h
  where
    by_listed : (b : Bool) → is_listed (kind_of e) ≡ b → Some n ≡ cond b (Some (1 + body_length (kind_of e))) None
        → (is_listed (kind_of e) ≡ true) × (n ≡ 1 + body_length (kind_of e))
    by_listed true q h = (q, cc)
    by_listed false q h = let z : ◌≡◌ {A = ℕ} 0 1 = cc in absurd (omega arith)

unlisted : (e : Event) → None ≡ length_of_event e → is_listed (kind_of e) ≡ false
unlisted e h = by_listed (is_listed (kind_of e)) refl h
  where
    by_listed : (b : Bool) → is_listed (kind_of e) ≡ b → None ≡ cond b (Some (1 + body_length (kind_of e))) None → is_listed (kind_of e) ≡ false
    by_listed true q h = let z : ◌≡◌ {A = ℕ} 0 1 = cc in absurd (omega arith)
    by_listed false q h = q

-- ---- what writing answers, and what it leaves
pub refused_2_says : (buffer : List ℕ) (e : Event) → None ≡ length_of_event e → Err Refusal.UnlistedKind ≡ writing_of buffer e
unfolding writing_of
refused_2_says buffer e h = rw (unlisted e h)

pub refused_2_stays : (buffer : List ℕ) (e : Event) → None ≡ length_of_event e → buffer ≡ written_to buffer e
unfolding written_to
refused_2_stays buffer e h = rw (unlisted e h)

refused_3_says : (buffer : List ℕ) (e : Event) (n : ℕ) → Some n ≡ length_of_event e → length (event_bytes e) ≡ 1 + body_length (kind_of e) → length buffer < n
    → Err Refusal.CutShort ≡ writing_of buffer e
unfolding writing_of
refused_3_says buffer e n h whole less =
    let l = listed e n h in
    rw (l.0, lt-leb (length (event_bytes e)) (length buffer) (omega (arith, l.1)))

refused_3_stays : (buffer : List ℕ) (e : Event) (n : ℕ) → Some n ≡ length_of_event e → length (event_bytes e) ≡ 1 + body_length (kind_of e) → length buffer < n
    → buffer ≡ written_to buffer e
unfolding written_to
refused_3_stays buffer e n h whole less =
    let l = listed e n h in
    rw (l.0, lt-leb (length (event_bytes e)) (length buffer) (omega (arith, l.1)))

written_says : (buffer : List ℕ) (e : Event) (n : ℕ) → Some n ≡ length_of_event e → length (event_bytes e) ≡ 1 + body_length (kind_of e) → n ≤ length buffer
    → Ok n ≡ writing_of buffer e
unfolding writing_of
written_says buffer e n h whole room =
    let l = listed e n h in
    let ok : ℕ → Writing = λ (n : ℕ). Ok n in
    let long : n ≡ length (event_bytes e) = omega (arith, l.1) in
    ap ok long ∙ sym (rw (l.0, le-leb (length (event_bytes e)) (length buffer) (omega (arith, l.1))))

event_left : (buffer : List ℕ) (e : Event) (n : ℕ) → Some n ≡ length_of_event e → length (event_bytes e) ≡ 1 + body_length (kind_of e) → n ≤ length buffer
    → with_event buffer e ≡ written_to buffer e
unfolding with_event written_to put_fields
event_left buffer e n h whole room =
    let l = listed e n h in
    let enough : length (event_bytes e) ≤ length buffer = omega (arith, l.1) in
    rw (l.0, le-leb (length (event_bytes e)) (length buffer) enough, kind_first (kind_of e) (field_lengths (kind_of e)) (fields_of e))
    (from_start (event_bytes e) buffer enough)

-- ---- both
pub refused_2 : (buffer : List ℕ) (e : Event) → None ≡ length_of_event e → (Err Refusal.UnlistedKind ≡ writing_of buffer e) × (buffer ≡ written_to buffer e)
refused_2 buffer e h = (refused_2_says buffer e h, refused_2_stays buffer e h)

pub refused_3_whole : (buffer : List ℕ) (e : Event) (n : ℕ) → Some n ≡ length_of_event e → length (event_bytes e) ≡ 1 + body_length (kind_of e) → length buffer < n
    → (Err Refusal.CutShort ≡ writing_of buffer e) × (buffer ≡ written_to buffer e)
refused_3_whole buffer e n h whole less = (refused_3_says buffer e n h whole less, refused_3_stays buffer e n h whole less)

pub written_whole : (buffer : List ℕ) (e : Event) (n : ℕ) → Some n ≡ length_of_event e → length (event_bytes e) ≡ 1 + body_length (kind_of e) → n ≤ length buffer
    → (Ok n ≡ writing_of buffer e) × (with_event buffer e ≡ written_to buffer e)
written_whole buffer e n h whole room = (written_says buffer e n h whole room, event_left buffer e n h whole room)

-- the same of each event: the blocks of a view are a list here, and EightBlocks says of it what the type of the array says
whole_event : (e : Event) → EightBlocks e → length (event_bytes e) ≡ 1 + body_length (kind_of e)
whole_event e eight = omega (arith, body_length_lem e eight)

pub refused_3 : (buffer : List ℕ) (e : Event) (n : ℕ) → Some n ≡ length_of_event e → EightBlocks e → length buffer < n
    → (Err Refusal.CutShort ≡ writing_of buffer e) × (buffer ≡ written_to buffer e)
refused_3 buffer e n h eight less = refused_3_whole buffer e n h (whole_event e eight) less

pub written : (buffer : List ℕ) (e : Event) (n : ℕ) → Some n ≡ length_of_event e → EightBlocks e → n ≤ length buffer
    → (Ok n ≡ writing_of buffer e) × (with_event buffer e ≡ written_to buffer e)
written buffer e n h eight room = written_whole buffer e n h (whole_event e eight) room
