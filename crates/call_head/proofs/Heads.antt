-- The event at an index where a kind and a lane were read; and where there is no call of a lane.
use Rattle.std.specs.Prelude.{Ok, Err, None, Some}
use Prim.Native.Nat.{ℕ, ◌+◌, ◌-◌, ◌≤◌, ◌<◌}
use mathlib.Core.Path.{◌≡◌, refl, sym, ap, ◌∙◌, subst}
use mathlib.Core.Bool.{true, false}
use mathlib.Core.List.{List, [], ◌∷◌}
use native.Mathlib.Omega.{arith}
use lib.Dec.{leb}
use lib.ListN.{drop, get_or, length}
use lib.Seq.{drop-drop}
use borrow.Author.Tests.{le-leb, leb-false, leb-true, lt-leb}
use Rattle.lists.proofs.Tests.{both, by_test}
use Rattle.event.specs.Kinds.{body_length, field_lengths, is_listed}
use Rattle.event.specs.Event.{event_of, fields_in, kind_of}
use Rattle.event.specs.ReadWrite.{Reading, event_read, read_at}
use Rattle.event.specs.declared.Cursor.{Cursor}
use Rattle.event.specs.declared.Event.{Event}
use Rattle.event.specs.declared.Refusal.{Refusal}
use Rattle.event.proofs.ByKind.{kind_of_event}
use Rattle.event.proofs.Lengths.{reads}
use Rattle.decode_fields.specs.Fields.{fields_at, total, values}
use Rattle.decode_fields.proofs.InOrder.{Got, and_then, got, got_said}
use Rattle.decode_fields.proofs.Numbers.{number_of_one}
use Rattle.decode.specs.Body.{body_at}
use Rattle.decode.proofs.Bodies.{body_read}
use Rattle.call_head.specs.Head.{HeadMeets, Headed, NoLane, lane_kind, rest_of}
use Rattle.call_head.specs.declared.Head.{Head}
use Rattle.call_head.proofs.LaneKinds.{by_lane, lane_call_kind, lane_listed, rest_body}

-- ---- fields that the sheet has
pub fields_there : (lengths sheet : List ℕ) (to : ℕ) → to + total lengths ≤ length sheet → fields_at lengths sheet to ≡ values (fields_in lengths (drop to sheet)) (to + total lengths)
fields_there lengths sheet to room = sym (got_said (record { numbers = refl; past = refl; room = room }))

-- no field past the lane
pub nothing_there : (sheet : List ℕ) (to : ℕ) → to ≤ length sheet → fields_at [] sheet to ≡ values [] to
unfolding fields_at fields_in
nothing_there sheet to h = let e : to + 0 ≡ to = omega arith in rw (e, le-leb to (length sheet) h)

-- room past an index, by the bytes that are left
pub room_shift : (n to len : ℕ) → to ≤ len → leb n (len - to) ≡ leb (to + n) len
room_shift n to len h =
    by_test (leb n (len - to))
    (λ t. let fits : to + n ≤ len = omega (arith, leb-true n (len - to) t) in rw (t, le-leb (to + n) len fits))
    (λ f. let past : len < to + n = omega (arith, leb-false n (len - to) f) in rw (f, lt-leb (to + n) len past))

-- ---- the event that is read
same_head : {a b : ℕ} {more rest : List ℕ} → a ∷ more ≡ b ∷ rest → a ≡ b
same_head e = cc

same_tail : {a b : ℕ} {more rest : List ℕ} → a ∷ more ≡ b ∷ rest → more ≡ rest
same_tail e = cc

-- the byte at an index, by the fields read from there on
byte_is : {lengths vs sheet : List ℕ} {at end : ℕ} (kind : ℕ) → Got (1 ∷ lengths) (kind ∷ vs) sheet at end → get_or sheet at 0 ≡ kind
unfolding fields_in
byte_is {lengths} {vs} {sheet} {at} {end} kind g = let more : at < length sheet = omega (arith, g.room) in sym (number_of_one sheet at more) ∙ same_head g.numbers

-- an event whose kind and fields stand at an index is read there
pub kind_there : {vs sheet : List ℕ} {at end : ℕ} (kind : ℕ) → is_listed kind ≡ true → Got (1 ∷ field_lengths kind) (kind ∷ vs) sheet at end
    → read_at sheet at ≡ event_read (event_of kind vs) (record { at = end })
unfolding read_at body_at fields_in
kind_there {vs} {sheet} {at} {end} kind listed g =
    let more : at < length sheet = omega (arith, g.room) in
    let body : Got (field_lengths kind) vs sheet (at + 1) end =
    record { numbers = ap (fields_in (field_lengths kind)) (sym (drop-drop 1 at sheet)) ∙ same_tail g.numbers; past = omega (arith, g.past); room = omega (arith, g.room) } in
    rw (lt-leb (length sheet) at more, byte_is kind g) (sym (body_read kind listed body))

-- where a kind that names a lane and the lane stand, the event is theirs
pub headed_read : {sheet rest : List ℕ} {at next : ℕ} {h : Head} → Headed sheet at h → fields_at (rest_of h.kind) sheet h.to ≡ values rest next
    → read_at sheet at ≡ event_read (event_of h.kind (h.lane ∷ rest)) (record { at = next })
headed_read {sheet} {rest} {at} {next} {h} g f =
    let lengths : 1 ∷ 1 ∷ rest_of h.kind ≡ 1 ∷ field_lengths h.kind =
    ap (λ (ls : List ℕ). 1 ∷ ls) (by_lane (λ (k : ℕ). 1 ∷ rest_of k ≡ field_lengths k) refl refl refl refl refl refl refl refl refl h.kind g.kind) in
    kind_there h.kind (lane_listed h.kind g.kind) (rw lengths at (and_then (got g.fields) (got f)))

-- ---- and the kind of one that was read
same_event : (f e : Event) (m next : Cursor) → event_read f m ≡ event_read e next → f ≡ e
same_event f e m next q = let p : ◌≡◌ {A = Event × Cursor} (f, m) (e, next) = cc in ap (λ (x : Event × Cursor). x.0) p

same_next : (f e : Event) (m next : Cursor) → event_read f m ≡ event_read e next → m ≡ next
same_next f e m next q = let p : ◌≡◌ {A = Event × Cursor} (f, m) (e, next) = cc in ap (λ (x : Event × Cursor). x.1) p

none_read : {X : Type 0} (e : Event) (next : Cursor) → ◌≡◌ {A = Reading} (Ok None) (event_read e next) → X
none_read e next q = let z : ◌≡◌ {A = ℕ} 0 1 = cc in absurd (omega arith)

refused_read : {X : Type 0} (k : Refusal) (e : Event) (next : Cursor) → Err k ≡ event_read e next → X
refused_read k e next q = let z : ◌≡◌ {A = ℕ} 0 1 = cc in absurd (omega arith)

-- it is of the kind of the byte there, and the next one stands past its body
pub record KindRead (sheet : List ℕ) (at : ℕ) (e : Event) (next : Cursor) : Type 0 where
  pub kind : kind_of e ≡ get_or sheet at 0
  pub past : next.at ≡ at + 1 + body_length (get_or sheet at 0)

module _ (sheet : List ℕ) (at : ℕ) (e : Event) (next : Cursor) where
  abbrev byte : ℕ
  byte = get_or sheet at 0

  abbrev said : List ℕ
  said = fields_in (field_lengths byte) (drop (at + 1) sheet)

  whole : is_listed byte ≡ true → event_read (event_of byte said) (record { at = at + 1 + body_length byte }) ≡ event_read e next → KindRead sheet at e next
  whole t q =
      record {
        kind = rw (← same_event (event_of byte said) e _ next q) (kind_of_event byte said t);
        past = sym (ap (λ (c : Cursor). c.at) (same_next (event_of byte said) e _ next q));
      }

  pub kind_read : read_at sheet at ≡ event_read e next → KindRead sheet at e next
  unfolding read_at
  kind_read q =
      by_test (leb (length sheet) at)
      (λ past. none_read e next (rw past at q))
      (λ more. by_test (is_listed byte)
      (λ t. by_test (leb (body_length byte) (length (drop (at + 1) sheet)))
      (λ room. whole t (rw (more, t, room, kind_of_event byte said t, t) at q))
      (λ short. refused_read Refusal.CutShort e next (rw (more, t, short) at q)))
      (λ f. refused_read Refusal.UnlistedKind e next (rw (more, f) at q)))

-- ---- where there is no call of a lane
-- the sheet ends before the lane
pub cut_no_lane : (sheet : List ℕ) (at : ℕ) → length sheet < at + 2 → NoLane sheet at
cut_no_lane sheet at h e next lane call q s =
    let kind = kind_read sheet at e next q in
    let r = reads sheet at e next q in
    let body = rest_body (get_or sheet at 0) (rw kind.kind at (lane_call_kind e lane call s)) in
    omega (arith, kind.past, r.within)

module _ (sheet : List ℕ) (at kind lane to : ℕ) (g : Got (1 ∷ 1 ∷ []) (kind ∷ lane ∷ []) sheet at to) where
  -- the kind names no lane
  pub other_no_lane : lane_kind kind ≡ false → NoLane sheet at
  other_no_lane f e next i call q s = both (lane_call_kind e i call s) (rw ((kind_read sheet at e next q).kind, byte_is kind g) f)

  -- the body is cut short
  pub short_no_lane : lane_kind kind ≡ true → length sheet < to + total (rest_of kind) → NoLane sheet at
  short_no_lane t cut e next i call q s =
      let body = rest_body kind t in
      let past : next.at ≡ at + 1 + body_length kind = (kind_read sheet at e next q).past ∙ rw (byte_is kind g) in
      omega (arith, (reads sheet at e next q).within, g.past)

-- ---- what is answered
pub no_head : {sheet : List ℕ} {at : ℕ} → NoLane sheet at → HeadMeets sheet at None
no_head n = record { call = λ h e. some_none h (sym e); other = λ e. n }
  where
    some_none : {X : Type 0} (h : Head) → Some h ≡ None → X
    some_none h q = let z : ◌≡◌ {A = ℕ} 0 1 = cc in absurd (omega arith)

pub a_head : {sheet : List ℕ} {at : ℕ} {h : Head} → Headed sheet at h → HeadMeets sheet at (Some h)
a_head {sheet} {at} {h} H =
    record {
      call = λ g e. subst (Headed sheet at) (same h g e) H;
      other = λ e. let z : ◌≡◌ {A = ℕ} 0 1 = cc in absurd (omega arith);
    }
  where
    same : (h g : Head) → Some h ≡ Some g → h ≡ g
    same h g q = cc
