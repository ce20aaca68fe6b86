-- The edges of reading and writing events, by computation.
use Rattle.event.specs.declared.Refusal.{Refusal}
use Rattle.std.specs.Prelude.{None, Ok, Err}
use mathlib.Core.Path.{◌≡◌, refl}
use mathlib.Core.List.{[], ◌∷◌}
use lib.IntN.{pos, negsuc}
use lib.ListN.{replicate}
use Rattle.event.specs.BigEndian.{big_endian, number_of}
use Rattle.event.specs.Kinds.{body_length}
use Rattle.event.specs.Event.{bytes_of, fields_in}
use Rattle.event.specs.ReadWrite.{event_read, read_at, writing_of, written_to}
use Rattle.event.specs.declared.Event.{Event}

-- ---- reading
-- no byte left is no event and no refusal
pub empty_sheet_ends : read_at [] 0 ≡ (Ok None)
unfolding read_at
empty_sheet_ends = refl

pub read_sheet_ends : read_at (0x06 ∷ 0 ∷ []) 2 ≡ (Ok None)
unfolding read_at
read_sheet_ends = refl

pub past_the_end_ends : read_at (0x06 ∷ 0 ∷ []) 3 ≡ (Ok None)
unfolding read_at
past_the_end_ends = refl

-- a lone kind byte of a listed kind is 3, and so is a body one byte short
pub lone_kind : read_at (0x06 ∷ []) 0 ≡ (Err Refusal.CutShort)
unfolding read_at
lone_kind = refl

pub one_byte_short : read_at (0x04 ∷ 0 ∷ 0 ∷ []) 0 ≡ (Err Refusal.CutShort)
unfolding read_at
one_byte_short = refl

-- an unlisted kind is 2 whatever follows, also as the last byte
pub kind_zero : read_at (0x00 ∷ []) 0 ≡ (Err Refusal.UnlistedKind)
unfolding read_at
kind_zero = refl

pub kind_past_seek : read_at (0x0D ∷ replicate 39 0) 0 ≡ (Err Refusal.UnlistedKind)
unfolding read_at
kind_past_seek = refl

pub last_byte_unlisted : read_at (0x06 ∷ 0 ∷ 0xFF ∷ []) 2 ≡ (Err Refusal.UnlistedKind)
unfolding read_at
last_byte_unlisted = refl

-- fields are big-endian, and the cursor goes past the body alone
pub take_read : read_at (0x06 ∷ 9 ∷ 0x04 ∷ 7 ∷ 0x01 ∷ 0x02 ∷ 0xFF ∷ []) 2 ≡ (event_read (Event.Take 7 258) (record { at = 6 }))
unfolding read_at fields_in number_of
take_read = refl

-- ---- the offset is two's complement
pub offset_all_ones : read_at (0x0C ∷ 1 ∷ 0xFF ∷ 0xFF ∷ 0xFF ∷ 0xFF ∷ []) 0 ≡ (event_read (Event.Seek 1 (negsuc 0)) (record { at = 6 }))
unfolding read_at fields_in number_of
offset_all_ones = refl

pub offset_least : read_at (0x0C ∷ 1 ∷ 0x80 ∷ 0 ∷ 0 ∷ 0 ∷ []) 0 ≡ (event_read (Event.Seek 1 (negsuc 2147483647)) (record { at = 6 }))
unfolding read_at fields_in number_of
offset_least = refl

pub offset_greatest : read_at (0x0C ∷ 1 ∷ 0x7F ∷ 0xFF ∷ 0xFF ∷ 0xFF ∷ []) 0 ≡ (event_read (Event.Seek 1 (pos 2147483647)) (record { at = 6 }))
unfolding read_at fields_in number_of
offset_greatest = refl

-- ---- writing: 2 before 3, and the bytes past the event stay
pub unlisted_is_2 : writing_of [] Event.Unlisted ≡ (Err Refusal.UnlistedKind)
unfolding writing_of
unlisted_is_2 = refl

pub short_buffer_is_3 : writing_of (replicate 3 9) (Event.Take 7 258) ≡ (Err Refusal.CutShort)
unfolding writing_of bytes_of big_endian
short_buffer_is_3 = refl

pub short_buffer_stays : written_to (replicate 3 9) (Event.Take 7 258) ≡ replicate 3 9
unfolding written_to bytes_of big_endian
short_buffer_stays = refl

pub take_written : written_to (replicate 6 9) (Event.Take 7 258) ≡ 0x04 ∷ 7 ∷ 0x01 ∷ 0x02 ∷ 9 ∷ 9 ∷ []
unfolding written_to bytes_of big_endian
take_written = refl

pub take_length : writing_of (replicate 6 9) (Event.Take 7 258) ≡ (Ok 4)
unfolding writing_of bytes_of big_endian
take_length = refl

-- ---- the lengths of the bodies, 01 to 0C
pub body_lengths :
    body_length 0x01
    ∷ body_length 0x02
    ∷ body_length 0x03
    ∷ body_length 0x04
    ∷ body_length 0x05
    ∷ body_length 0x06
    ∷ body_length 0x07
    ∷ body_length 0x08
    ∷ body_length 0x09
    ∷ body_length 0x0A
    ∷ body_length 0x0B
    ∷ body_length 0x0C
    ∷ []
    ≡ 5 ∷ 2 ∷ 1 ∷ 3 ∷ 9 ∷ 1 ∷ 13 ∷ 5 ∷ 1 ∷ 3 ∷ 39 ∷ 5 ∷ []
body_lengths = refl
