-- Document 01, "Events": the kinds as one table. What is listed, the fields of a body with their lengths and names, a kind's word, whether a call
-- names a lane, and the event that fields make are read off it, and stand nowhere else.
use Rattle.std.specs.Prelude.{ℕ, zero, suc, Bool, true, false, ◌&&◌, List, [], ◌∷◌, ◌++◌, map, leb, get_or, length}
use Prim.Native.String.{String}
use Rattle.lists.specs.Lists.{sum_of}
use Rattle.view.specs.View.{block, place}
use Rattle.event.specs.BigEndian.{signed}
use Rattle.view.specs.declared.Block.{Block}
use Rattle.event.specs.declared.Event.{Event}

-- ---- a field of a body
-- how it is shown in words: a number, a record, a signed offset, or the start of a block with the length that follows it
pub data Form : Type 0 where
  plain in_hex with_sign block_start block_length : Form

pub record Field : Type 0 where
  pub name : String
  pub length : ℕ
  pub form : Form

abbrev pub number : String → ℕ → Field
number name length = record { name = name; length = length; form = plain }

-- "a record is 8 bytes"
abbrev pub content : Field
content = record { name = "record"; length = 8; form = in_hex }

abbrev pub offset : Field
offset = record { name = "offset"; length = 4; form = with_sign }

-- "(start 2, length 2)", and four of them
abbrev pub start_and_length : List Field
start_and_length = record { name = "start"; length = 2; form = block_start } ∷ record { name = "length"; length = 2; form = block_length } ∷ []

abbrev pub four_blocks : List Field
four_blocks = start_and_length ++ start_and_length ++ start_and_length ++ start_and_length

-- ---- a kind
pub record Kind : Type 0 where
  pub word : String
  -- whether the first field is the lane that calls
  pub names_lane : Bool
  pub fields : List Field
  -- the event, with v k for its k-th field
  pub event : (ℕ → ℕ) → Event

abbrev pub by_lane : String → List Field → ((ℕ → ℕ) → Event) → Kind
by_lane word more event = record { word = word; names_lane = true; fields = number "lane" 1 ∷ more; event = event }

abbrev pub by_no_lane : String → List Field → ((ℕ → ℕ) → Event) → Kind
by_no_lane word fields event = record { word = word; names_lane = false; fields = fields; event = event }

-- the eight blocks of a view: its fields 3 to 18
abbrev pub blocks_at : (ℕ → ℕ) → List Block
blocks_at v =
    block (v 3) (v 4)
    ∷ block (v 5) (v 6)
    ∷ block (v 7) (v 8)
    ∷ block (v 9) (v 10)
    ∷ block (v 11) (v 12)
    ∷ block (v 13) (v 14)
    ∷ block (v 15) (v 16)
    ∷ block (v 17) (v 18)
    ∷ []

-- the kinds from 01 on, in order
abbrev pub kinds : List Kind
kinds =
    -- 01 open: lanes 1, capacity 4
    by_no_lane "open" (number "lanes" 1 ∷ number "capacity" 4 ∷ []) (λ v. Event.Open (v 0) (v 1))
    -- 02 want: lane 1, purpose 1
    ∷ by_lane "want" (number "purpose" 1 ∷ []) (λ v. Event.Want (v 0) (v 1))
    -- 03 receive: lane 1
    ∷ by_lane "receive" [] (λ v. Event.Receive (v 0))
    -- 04 take: lane 1, count 2
    ∷ by_lane "take" (number "count" 2 ∷ []) (λ v. Event.Take (v 0) (v 1))
    -- 05 write: lane 1, record 8
    ∷ by_lane "write" (content ∷ []) (λ v. Event.Write (v 0) (v 1))
    -- 06 read: lane 1
    ∷ by_lane "read" [] (λ v. Event.Read (v 0))
    -- 07 put: lane 1, place 4, record 8
    ∷ by_lane "put" (number "place" 4 ∷ content ∷ []) (λ v. Event.Put (v 0) (place (v 1)) (v 2))
    -- 08 look: lane 1, place 4
    ∷ by_lane "look" (number "place" 4 ∷ []) (λ v. Event.Look (v 0) (place (v 1)))
    -- 09 free: lane 1
    ∷ by_lane "free" [] (λ v. Event.Free (v 0))
    -- 0A enter: lane 1, count 2
    ∷ by_lane "enter" (number "count" 2 ∷ []) (λ v. Event.Enter (v 0) (v 1))
    -- 0B view: displacement 4, extent 2, blocks 1, eight times (start 2, length 2)
    ∷ by_no_lane "view" (number "displacement" 4 ∷ number "extent" 2 ∷ number "blocks" 1 ∷ four_blocks ++ four_blocks) (λ v. Event.View (v 0) (v 1) (v 2) (blocks_at v))
    -- 0C seek: whence 1, signed offset 4
    ∷ by_no_lane "seek" (number "whence" 1 ∷ offset ∷ []) (λ v. Event.Seek (v 0) (signed (v 1)))
    ∷ []

-- ---- what is read off the table
-- "2. The kind is not 01 to 0C": the kinds are numbered from 1
abbrev pub is_listed : ℕ → Bool
is_listed kind = leb 1 kind && leb kind (length kinds)

-- any other number
abbrev pub no_kind : Kind
no_kind = by_no_lane "unlisted" [] (λ v. Event.Unlisted)

abbrev pub kind_at : ℕ → Kind
kind_at zero = no_kind
kind_at (suc k) = get_or kinds k no_kind

abbrev pub field_lengths : ℕ → List ℕ
field_lengths kind = map (λ (f : Field). f.length) (kind_at kind).fields

abbrev pub body_length : ℕ → ℕ
body_length kind = sum_of (λ (n : ℕ). n) (field_lengths kind)
