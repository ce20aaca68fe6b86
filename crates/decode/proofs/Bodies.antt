-- What the fields that were read, or one that was cut short, make of a body; and a kind that is none of the table's.
use Rattle.event.specs.ReadWrite.{event_read}
use Rattle.event.specs.declared.Refusal.{Refusal}
use Rattle.std.specs.Prelude.{Err}
use Prim.Native.Nat.{ℕ, ◌≤◌, ◌<◌}
use mathlib.Core.Path.{◌≡◌, refl, sym, ap, ◌∙◌}
use mathlib.Core.Bool.{true, false}
use mathlib.Core.List.{List, ◌∷◌, ◌++◌}
use native.Mathlib.Omega.{arith}
use lib.ListN.{drop, length, length-drop}
use borrow.Author.Tests.{le-leb, lt-leb}
use Rattle.event.specs.Kinds.{body_length, field_lengths, is_listed}
use Rattle.event.specs.Event.{block_numbers, event_of, kind_of}
use Rattle.event.specs.declared.Event.{Event}
use Rattle.event.proofs.Blocks.{blocks_back}
use Rattle.view.specs.declared.Block.{Block}
use Rattle.lists.proofs.Tests.{by_test}
use Rattle.event.proofs.ByKind.{◌▹◌, EachKind, listed, by_kind, kind_of_event}
use Rattle.decode_fields.specs.Fields.{fields_at, short, values}
use Rattle.decode_fields.proofs.InOrder.{Cut, Got, cut_first, missed, pair_cut_later, pair_got}
use Rattle.decode.specs.Body.{body_at}

-- ---- the body of a listed kind
pub body_read : {vs sheet : List ℕ} {at end : ℕ} (kind : ℕ) → is_listed kind ≡ true → Got (field_lengths kind) vs sheet at end
    → (event_read (event_of kind vs) (record { at = end })) ≡ body_at kind sheet at
unfolding body_at
body_read {vs} {sheet} {at} {end} kind k g =
    let room : body_length kind ≤ length (drop at sheet) = simp length-drop (omega (arith, g.room)) in
    let known : is_listed (kind_of (event_of kind vs)) ≡ true = rw (kind_of_event kind vs k) k in
    sym (rw (k, le-leb (body_length kind) (length (drop at sheet)) room, g.numbers, known, g.past))

-- the body of a view, whose blocks are eight
pub view_read : (displacement extent used : ℕ) (blocks : List Block) (sheet : List ℕ) (at end : ℕ) → length blocks ≡ 8
    → Got (field_lengths 11) (displacement ∷ extent ∷ used ∷ block_numbers blocks) sheet at end
    → (event_read (Event.View displacement extent used blocks) (record { at = end })) ≡ body_at 11 sheet at
view_read displacement extent used blocks sheet at end eight g =
    ap (λ (bs : List Block). event_read (Event.View displacement extent used bs) (record { at = end })) (sym (blocks_back displacement extent used blocks eight))
    ∙ body_read 11 refl g

-- a body that has a byte at least
pub body_cut : {sheet : List ℕ} {at : ℕ} (kind : ℕ) → is_listed kind ≡ true → 0 < body_length kind → Cut (field_lengths kind) sheet at
    → (Err Refusal.CutShort) ≡ body_at kind sheet at
unfolding body_at
body_cut {sheet} {at} kind k some s =
    let less : length (drop at sheet) < body_length kind = simp length-drop (omega (arith, s.ends)) in
    sym (rw (k, lt-leb (body_length kind) (length (drop at sheet)) less))

-- ---- a body whose first, second or third field is cut short, by what its readers said
pub cut_one : (kind : ℕ) (ns sheet : List ℕ) (at : ℕ) → short ≡ fields_at ns sheet at
    → is_listed kind ≡ true → 0 < body_length kind → ns ++ drop (length ns) (field_lengths kind) ≡ field_lengths kind
    → Err Refusal.CutShort ≡ body_at kind sheet at
cut_one kind ns sheet at r k some l = body_cut kind k some (rw l at (cut_first (drop (length ns) (field_lengths kind)) (missed (sym r))))

pub cut_two : (kind : ℕ) (ns ms vs sheet : List ℕ) (at to : ℕ) → values vs to ≡ fields_at ns sheet at → short ≡ fields_at ms sheet to
    → is_listed kind ≡ true → 0 < body_length kind → (ns ++ ms) ++ drop (length (ns ++ ms)) (field_lengths kind) ≡ field_lengths kind
    → Err Refusal.CutShort ≡ body_at kind sheet at
cut_two kind ns ms vs sheet at to r q k some l = cut_one kind (ns ++ ms) sheet at (pair_cut_later ns ms vs sheet at to r q) k some l

pub cut_three : (kind : ℕ) (ns ms ls vs ws sheet : List ℕ) (at to on : ℕ) → values vs to ≡ fields_at ns sheet at → values ws on ≡ fields_at ms sheet to
    → short ≡ fields_at ls sheet on
    → is_listed kind ≡ true → 0 < body_length kind → ((ns ++ ms) ++ ls) ++ drop (length ((ns ++ ms) ++ ls)) (field_lengths kind) ≡ field_lengths kind
    → Err Refusal.CutShort ≡ body_at kind sheet at
cut_three kind ns ms ls vs ws sheet at to on r q p k some l = cut_two kind (ns ++ ms) ls (vs ++ ws) sheet at on (pair_got ns ms vs ws sheet at to on r q) p k some l

pub ruleset cuts = (cut_one, cut_two, cut_three)

-- ---- a kind that is none of the table's
pub none_listed : (kind : ℕ) → EachKind (λ (n : ℕ). kind ≡ n → ⊥) → is_listed kind ≡ false
none_listed kind each = by_test (is_listed kind) (λ t. absurd (by_kind (λ (n : ℕ). kind ≡ n → ⊥) each kind t refl)) (λ f. f)

pub body_unlisted : (kind : ℕ) (sheet : List ℕ) (at : ℕ) → is_listed kind ≡ false → Err Refusal.UnlistedKind ≡ body_at kind sheet at
unfolding body_at
body_unlisted kind sheet at k = sym (rw k)

-- the same by the tests of a match
pub body_of_none : (kind : ℕ) (sheet : List ℕ) (at : ℕ)
    → (kind ≡ 1 → ⊥) → (kind ≡ 2 → ⊥) → (kind ≡ 3 → ⊥) → (kind ≡ 4 → ⊥) → (kind ≡ 5 → ⊥) → (kind ≡ 6 → ⊥)
    → (kind ≡ 7 → ⊥) → (kind ≡ 8 → ⊥) → (kind ≡ 9 → ⊥) → (kind ≡ 10 → ⊥) → (kind ≡ 11 → ⊥) → (kind ≡ 12 → ⊥)
    → Err Refusal.UnlistedKind ≡ body_at kind sheet at
body_of_none kind sheet at a b c d e f g h i j k l =
    body_unlisted kind sheet at (none_listed kind (a ▹ b ▹ c ▹ d ▹ e ▹ f ▹ g ▹ h ▹ i ▹ j ▹ k ▹ l ▹ listed))
