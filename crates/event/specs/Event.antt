-- Document 01, "Events": an event as its kind and fields, read from bytes and written as bytes.
use Rattle.std.specs.Prelude.{ℕ, cond, List, [], ◌∷◌, ◌++◌, drop, get_or, length, take, leb, ℤ, pos}
use Rattle.view.specs.View.{block}
use Rattle.view.specs.declared.Block.{Block}
use Rattle.event.specs.BigEndian.{big_endian, number_of, unsigned}
use Rattle.event.specs.Kinds.{body_length, field_lengths, is_listed, kind_at}
use Rattle.event.specs.declared.Event.{Event}

-- ---- fields as bytes
-- fields of the given lengths, one after the other
unfoldable pub fields_in : List ℕ → List ℕ → List ℕ
fields_in [] bytes = []
fields_in (n ∷ ns) bytes = number_of (take n bytes) ∷ fields_in ns (drop n bytes)

unfoldable pub bytes_of : List ℕ → List ℕ → List ℕ
bytes_of [] fields = []
bytes_of (n ∷ ns) [] = []
bytes_of (n ∷ ns) (v ∷ vs) = big_endian n v ++ bytes_of ns vs

-- ---- an event is its kind and its fields
abbrev pub kind_of : Event → ℕ
kind_of (Event.Open lanes capacity) = 0x01
kind_of (Event.Want lane purpose) = 0x02
kind_of (Event.Receive lane) = 0x03
kind_of (Event.Take lane count) = 0x04
kind_of (Event.Write lane content) = 0x05
kind_of (Event.Read lane) = 0x06
kind_of (Event.Put lane k content) = 0x07
kind_of (Event.Look lane k) = 0x08
kind_of (Event.Free lane) = 0x09
kind_of (Event.Enter lane count) = 0x0A
kind_of (Event.View displacement extent used blocks) = 0x0B
kind_of (Event.Seek whence offset) = 0x0C
kind_of Event.Unlisted = 0

-- an array of eight, by its elements
abbrev pub element : List Block → ℕ → Block
element bs n = get_or bs n (block 0 0)

abbrev pub block_list : List Block → List Block
block_list bs = element bs 0 ∷ element bs 1 ∷ element bs 2 ∷ element bs 3 ∷ element bs 4 ∷ element bs 5 ∷ element bs 6 ∷ element bs 7 ∷ []

abbrev pub block_numbers : List Block → List ℕ
block_numbers [] = []
block_numbers (b ∷ bs) = b.start ∷ b.length ∷ block_numbers bs

-- the fields as numbers, in the body's order
abbrev pub fields_of : Event → List ℕ
fields_of (Event.Open lanes capacity) = lanes ∷ capacity ∷ []
fields_of (Event.Want lane purpose) = lane ∷ purpose ∷ []
fields_of (Event.Receive lane) = lane ∷ []
fields_of (Event.Take lane count) = lane ∷ count ∷ []
fields_of (Event.Write lane content) = lane ∷ content ∷ []
fields_of (Event.Read lane) = lane ∷ []
fields_of (Event.Put lane k content) = lane ∷ k.0 ∷ content ∷ []
fields_of (Event.Look lane k) = lane ∷ k.0 ∷ []
fields_of (Event.Free lane) = lane ∷ []
fields_of (Event.Enter lane count) = lane ∷ count ∷ []
fields_of (Event.View displacement extent used blocks) = displacement ∷ extent ∷ used ∷ block_numbers blocks
fields_of (Event.Seek whence offset) = whence ∷ unsigned offset ∷ []
fields_of Event.Unlisted = []

-- the signed field of a seek; 0 for the others
abbrev pub offset_in : Event → ℤ
offset_in (Event.Open lanes capacity) = pos 0
offset_in (Event.Want lane purpose) = pos 0
offset_in (Event.Receive lane) = pos 0
offset_in (Event.Take lane count) = pos 0
offset_in (Event.Write lane content) = pos 0
offset_in (Event.Read lane) = pos 0
offset_in (Event.Put lane k content) = pos 0
offset_in (Event.Look lane k) = pos 0
offset_in (Event.Free lane) = pos 0
offset_in (Event.Enter lane count) = pos 0
offset_in (Event.View displacement extent used blocks) = pos 0
offset_in (Event.Seek whence offset) = offset
offset_in Event.Unlisted = pos 0

-- the event of a kind with these fields
abbrev pub event_of : ℕ → List ℕ → Event
event_of kind fields = (kind_at kind).event (λ (k : ℕ). get_or fields k 0)

-- ---- reading
-- what a kind and the bytes after it say: an event, one of an unlisted kind included, or a listed kind whose body is cut short
pub data Call : Type 0 where
  given : Event → Call
  cut_short : Call

-- bytes past the body are not looked at
abbrev pub call_of : ℕ → List ℕ → Call
call_of kind bytes =
    cond (is_listed kind)
    (cond (leb (body_length kind) (length bytes)) (given (event_of kind (fields_in (field_lengths kind) bytes))) cut_short)
    (given Event.Unlisted)

-- ---- writing
abbrev pub event_bytes : Event → List ℕ
event_bytes e = kind_of e ∷ bytes_of (field_lengths (kind_of e)) (fields_of e)
