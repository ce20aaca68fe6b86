-- Fields read one after the other: what was got, or that one was cut short.
use Prim.Native.Nat.{ℕ, ◌+◌, ◌≤◌, ◌<◌}
use mathlib.Core.Path.{◌≡◌, refl, sym, ◌∙◌, ap}
use mathlib.Core.Bool.{Bool, true, false, cond}
use mathlib.Core.List.{List, [], ◌∷◌, ◌++◌}
use native.Mathlib.Omega.{arith}
use lib.Dec.{leb}
use lib.ListN.{drop, length, take}
use lib.Seq.{drop-drop}
use borrow.Author.Tests.{le-leb, leb-false, leb-true, lt-leb}
use Rattle.event.specs.BigEndian.{number_of}
use Rattle.event.specs.Event.{fields_in}
use Rattle.decode_fields.specs.Fields.{fields_at, short, total, values}

-- the fields of these lengths at an index are these numbers, and the sheet has them up to the end
pub record Got (lengths vs sheet : List ℕ) (at end : ℕ) : Type 0 where
  pub numbers : fields_in lengths (drop at sheet) ≡ vs
  pub past : at + total lengths ≡ end
  pub room : at + total lengths ≤ length sheet

-- the sheet ends before they do
pub record Cut (lengths sheet : List ℕ) (at : ℕ) : Type 0 where
  pub ends : length sheet < at + total lengths

-- ---- from what a reader said, and to it
pub got : {lengths vs sheet : List ℕ} {at end : ℕ} → fields_at lengths sheet at ≡ values vs end → Got lengths vs sheet at end
unfolding fields_at
got {lengths} {vs} {sheet} {at} {end} e = by_room (leb (at + total lengths) (length sheet)) refl e
  where
    by_room : (b : Bool) → leb (at + total lengths) (length sheet) ≡ b
        → cond b (values (fields_in lengths (drop at sheet)) (at + total lengths)) short ≡ values vs end
        → Got lengths vs sheet at end
    by_room true q e = record { numbers = cc; past = cc; room = leb-true (at + total lengths) (length sheet) q }
    by_room false q e = let z : ◌≡◌ {A = ℕ} 0 1 = cc in absurd (omega arith)

pub missed : {lengths sheet : List ℕ} {at : ℕ} → fields_at lengths sheet at ≡ short → Cut lengths sheet at
unfolding fields_at
missed {lengths} {sheet} {at} e = by_room (leb (at + total lengths) (length sheet)) refl e
  where
    by_room : (b : Bool) → leb (at + total lengths) (length sheet) ≡ b
        → cond b (values (fields_in lengths (drop at sheet)) (at + total lengths)) short ≡ short
        → Cut lengths sheet at
    by_room true q e = let z : ◌≡◌ {A = ℕ} 0 1 = cc in absurd (omega arith)
    by_room false q e = record { ends = leb-false (at + total lengths) (length sheet) q }

pub got_said : {lengths vs sheet : List ℕ} {at end : ℕ} → Got lengths vs sheet at end → values vs end ≡ fields_at lengths sheet at
unfolding fields_at
got_said {lengths} {vs} {sheet} {at} {end} g =
    rw (le-leb (at + total lengths) (length sheet) g.room, g.numbers, g.past)

pub cut_said : {lengths sheet : List ℕ} {at : ℕ} → Cut lengths sheet at → short ≡ fields_at lengths sheet at
unfolding fields_at
cut_said {lengths} {sheet} {at} s = rw (lt-leb (at + total lengths) (length sheet) s.ends)

-- ---- one field
pub one_got : (n : ℕ) (sheet : List ℕ) (at v : ℕ) → leb (at + n) (length sheet) ≡ true → v ≡ number_of (take n (drop at sheet))
    → values (v ∷ []) (at + n) ≡ fields_at (n ∷ []) sheet at
unfolding fields_at fields_in
one_got n sheet at v q e =
    let whole : n + 0 ≡ n = omega arith in
    rw (whole, q, e)

pub one_cut : (n : ℕ) (sheet : List ℕ) (at : ℕ) → leb (at + n) (length sheet) ≡ false → short ≡ fields_at (n ∷ []) sheet at
unfolding fields_at
one_cut n sheet at q =
    let whole : n + 0 ≡ n = omega arith in
    rw (whole, q)

-- ---- one after the other
total_append : (ns ms : List ℕ) → total (ns ++ ms) ≡ total ns + total ms
total_append [] ms = omega arith
total_append (n ∷ ns) ms = omega (arith, total_append ns ms)

fields_append : (ns ms bytes : List ℕ) → fields_in (ns ++ ms) bytes ≡ fields_in ns bytes ++ fields_in ms (drop (total ns) bytes)
unfolding fields_in
fields_append [] ms bytes = refl
fields_append (n ∷ ns) ms bytes = rw (fields_append ns ms (drop n bytes), drop-drop (total ns) n bytes)

pub and_then : {ns ms vs ws sheet : List ℕ} {at mid end : ℕ} → Got ns vs sheet at mid → Got ms ws sheet mid end → Got (ns ++ ms) (vs ++ ws) sheet at end
and_then {ns} {ms} {vs} {ws} {sheet} {at} {mid} {end} a b =
    let rest : drop (total ns) (drop at sheet) ≡ drop mid sheet = drop-drop (total ns) at sheet ∙ ap (λ (k : ℕ). drop k sheet) a.past in
    record {
      numbers = fields_append ns ms (drop at sheet) ∙ rw (rest, a.numbers, b.numbers);
      past = omega (arith, total_append ns ms, a.past, b.past);
      room = omega (arith, total_append ns ms, a.past, b.room);
    }

pub cut_first : {ns sheet : List ℕ} {at : ℕ} (ms : List ℕ) → Cut ns sheet at → Cut (ns ++ ms) sheet at
cut_first {ns} {sheet} {at} ms s = record { ends = omega (arith, total_append ns ms, s.ends) }

pub cut_later : {ns ms vs sheet : List ℕ} {at mid : ℕ} → Got ns vs sheet at mid → Cut ms sheet mid → Cut (ns ++ ms) sheet at
cut_later {ns} {ms} {vs} {sheet} {at} {mid} a s = record { ends = omega (arith, total_append ns ms, a.past, s.ends) }

-- ---- the same of what two readers said
pub pair_cut : (ns ms sheet : List ℕ) (at : ℕ) → short ≡ fields_at ns sheet at → short ≡ fields_at (ns ++ ms) sheet at
pair_cut ns ms sheet at e = cut_said (cut_first ms (missed (sym e)))

pub pair_cut_later : (ns ms vs sheet : List ℕ) (at mid : ℕ) → values vs mid ≡ fields_at ns sheet at → short ≡ fields_at ms sheet mid
    → short ≡ fields_at (ns ++ ms) sheet at
pair_cut_later ns ms vs sheet at mid e f = cut_said (cut_later (got (sym e)) (missed (sym f)))

pub pair_got : (ns ms vs ws sheet : List ℕ) (at mid end : ℕ) → values vs mid ≡ fields_at ns sheet at → values ws end ≡ fields_at ms sheet mid
    → values (vs ++ ws) end ≡ fields_at (ns ++ ms) sheet at
pair_got ns ms vs ws sheet at mid end e f = got_said (and_then (got (sym e)) (got (sym f)))
