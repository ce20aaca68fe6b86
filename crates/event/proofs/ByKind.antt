-- The kinds of the table: what holds for each of them holds for every listed kind; an event is its kind and its fields, and back.
use Prim.Native.Nat.{ℕ, suc, ◌+◌, ◌≤◌, ◌<◌}
use mathlib.Core.Path.{◌≡◌, refl, ap}
use mathlib.Core.Logic.{◌⊎◌, inl, inr}
use mathlib.Core.Bool.{true, false, false≢true}
use mathlib.Core.List.{List}
use native.Mathlib.Omega.{arith}
use native.Mathlib.Decide.{ℕ_discrete}
use lib.Dec.{leb}
use lib.ListN.{drop, length, take, length-drop}
use borrow.Author.Tests.{leb-true}
use Rattle.lists.proofs.Tests.{and_left, and_right, both}
use Rattle.event.specs.BigEndian.{number_of}
use Rattle.event.specs.Kinds.{body_length, field_lengths, is_listed, kinds}
use Rattle.event.specs.Event.{event_of, fields_in, fields_of, kind_of}
use Rattle.event.specs.Typed.{AreBytes, Typed}
use Rattle.event.specs.declared.Event.{Event}
use Rattle.event.proofs.Numbers.{signed_of_unsigned, unsigned_of_signed}
use Rattle.event.proofs.Blocks.{block_numbers_length, blocks_back}
use Rattle.event.proofs.Fields.{bytes_drop, field_below, fit_length}

-- ---- by kind
-- P of each of `count` numbers from k on, one after the other: `p ▹ q ▹ .. ▹ listed`
infixr 67 ◌▹◌
pub data EachFrom (P : ℕ → Type 0) : ℕ → ℕ → Type 0 where
  listed : {k : ℕ} → EachFrom P k 0
  ◌▹◌ : {k count : ℕ} → P k → EachFrom P (suc k) count → EachFrom P k (suc count)

-- P of each kind of the table, from 01 on
abbrev pub EachKind : (ℕ → Type 0) → Type 0
EachKind P = EachFrom P 1 (length kinds)

each_at : (P : ℕ → Type 0) {k count : ℕ} (j : ℕ) → EachFrom P k count → k ≤ j → j < k + count → P j
each_at P j listed h l = absurd (omega arith)
each_at P {k} j (p ▹ more) h l = elim (ℕ_discrete k j) [ yes e ↦ rw e at p | no n ↦ each_at P j more (omega arith) (omega arith) ]

-- what holds for each kind of the table holds for every listed kind
pub by_kind : (P : ℕ → Type 0) → EachKind P → (kind : ℕ) → is_listed kind ≡ true → P kind
by_kind P each kind t =
    let low = leb-true 1 kind (and_left (leb 1 kind) (leb kind (length kinds)) t) in
    let high = leb-true kind (length kinds) (and_right (leb 1 kind) (leb kind (length kinds)) t) in
    each_at P kind each low (omega arith)

-- an event is of a listed kind, or the one that stands for the others
pub listed_or : (e : Event) → (is_listed (kind_of e) ≡ true) ⊎ (e ≡ Event.Unlisted)
listed_or (Event.Open lanes capacity) = inl refl
listed_or (Event.Want lane purpose) = inl refl
listed_or (Event.Receive lane) = inl refl
listed_or (Event.Take lane count) = inl refl
listed_or (Event.Write lane content) = inl refl
listed_or (Event.Read lane) = inl refl
listed_or (Event.Put lane p content) = inl refl
listed_or (Event.Look lane p) = inl refl
listed_or (Event.Free lane) = inl refl
listed_or (Event.Enter lane count) = inl refl
listed_or (Event.View displacement extent used blocks) = inl refl
listed_or (Event.Seek whence offset) = inl refl
listed_or Event.Unlisted = inr refl

pub not_listed : (e : Event) → is_listed (kind_of e) ≡ false → e ≡ Event.Unlisted
not_listed e t = go (listed_or e)
  where
    go : (is_listed (kind_of e) ≡ true) ⊎ (e ≡ Event.Unlisted) → e ≡ Event.Unlisted
    go (inl l) = both l t
    go (inr z) = z

-- ---- from an event to its fields and back
pub event_of_fields : (e : Event) → is_listed (kind_of e) ≡ true → Typed e → event_of (kind_of e) (fields_of e) ≡ e
event_of_fields (Event.Open lanes capacity) k t = refl
event_of_fields (Event.Want lane purpose) k t = refl
event_of_fields (Event.Receive lane) k t = refl
event_of_fields (Event.Take lane count) k t = refl
event_of_fields (Event.Write lane content) k t = refl
event_of_fields (Event.Read lane) k t = refl
event_of_fields (Event.Put lane p content) k t = refl
event_of_fields (Event.Look lane p) k t = refl
event_of_fields (Event.Free lane) k t = refl
event_of_fields (Event.Enter lane count) k t = refl
event_of_fields (Event.View displacement extent used blocks) k t =
    let counted = fit_length (field_lengths 11) _ t.fit in
    ap (Event.View displacement extent used) (blocks_back displacement extent used blocks (omega (arith, block_numbers_length blocks)))
event_of_fields (Event.Seek whence offset) k t = ap (Event.Seek whence) (signed_of_unsigned offset t.offset)
event_of_fields Event.Unlisted k t = absurd (false≢true k)

-- a view's array has eight blocks, as its type says
abbrev pub EightBlocks : Event → Type 0
EightBlocks (Event.Open lanes capacity) = Unit {0}
EightBlocks (Event.Want lane purpose) = Unit {0}
EightBlocks (Event.Receive lane) = Unit {0}
EightBlocks (Event.Take lane count) = Unit {0}
EightBlocks (Event.Write lane content) = Unit {0}
EightBlocks (Event.Read lane) = Unit {0}
EightBlocks (Event.Put lane p content) = Unit {0}
EightBlocks (Event.Look lane p) = Unit {0}
EightBlocks (Event.Free lane) = Unit {0}
EightBlocks (Event.Enter lane count) = Unit {0}
EightBlocks (Event.View displacement extent used blocks) = length blocks ≡ 8
EightBlocks (Event.Seek whence offset) = Unit {0}
EightBlocks Event.Unlisted = Unit {0}

-- an event has as many fields as its kind has lengths
pub fields_counted : (e : Event) → EightBlocks e → length (field_lengths (kind_of e)) ≡ length (fields_of e)
fields_counted (Event.Open lanes capacity) c = refl
fields_counted (Event.Want lane purpose) c = refl
fields_counted (Event.Receive lane) c = refl
fields_counted (Event.Take lane count) c = refl
fields_counted (Event.Write lane content) c = refl
fields_counted (Event.Read lane) c = refl
fields_counted (Event.Put lane p content) c = refl
fields_counted (Event.Look lane p) c = refl
fields_counted (Event.Free lane) c = refl
fields_counted (Event.Enter lane count) c = refl
fields_counted (Event.View displacement extent used blocks) c = omega (arith, block_numbers_length blocks)
fields_counted (Event.Seek whence offset) c = refl
fields_counted Event.Unlisted c = refl

-- ---- from bytes to an event's fields
pub kind_of_event : (kind : ℕ) (fields : List ℕ) → is_listed kind ≡ true → kind_of (event_of kind fields) ≡ kind
kind_of_event kind fields k =
    by_kind (λ (n : ℕ). kind_of (event_of n fields) ≡ n) (refl ▹ refl ▹ refl ▹ refl ▹ refl ▹ refl ▹ refl ▹ refl ▹ refl ▹ refl ▹ refl ▹ refl ▹ listed) kind k

-- the fields of the event that bytes say are the fields in those bytes
FieldsKept : List ℕ → ℕ → Type 0
FieldsKept bytes kind = body_length kind ≤ length bytes → fields_of (event_of kind (fields_in (field_lengths kind) bytes)) ≡ fields_in (field_lengths kind) bytes

seek_kept : (bytes : List ℕ) → AreBytes bytes → FieldsKept bytes 12
unfolding FieldsKept fields_in
seek_kept bytes h room =
    let left : 4 ≤ length (drop 1 bytes) = simp length-drop (omega arith) in
    rw (unsigned_of_signed (number_of (take 4 (drop 1 bytes))) (field_below 4 (drop 1 bytes) (bytes_drop 1 bytes h) left))

pub fields_of_event : (kind : ℕ) (bytes : List ℕ) → AreBytes bytes → is_listed kind ≡ true → body_length kind ≤ length bytes
    → fields_of (event_of kind (fields_in (field_lengths kind) bytes)) ≡ fields_in (field_lengths kind) bytes
unfolding FieldsKept fields_in
fields_of_event kind bytes h k =
    by_kind (FieldsKept bytes)
    ((λ r. refl) ▹ (λ r. refl) ▹ (λ r. refl) ▹ (λ r. refl) ▹ (λ r. refl) ▹ (λ r. refl) ▹ (λ r. refl) ▹ (λ r. refl) ▹ (λ r. refl) ▹ (λ r. refl) ▹ (λ r. refl) ▹ seek_kept bytes h ▹ listed)
    kind k
