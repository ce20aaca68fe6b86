-- `number_text::put_hex` meets its contract: a store adds its digit to those that stand already.
use Prim.Native.Nat.{ℕ, suc, ◌+◌, ◌-◌, ◌/◌, ◌%◌, ◌^◌, ◌<◌}
use mathlib.Core.Bool.{true}
use mathlib.Core.Path.{◌≡◌, refl}
use mathlib.Core.List.{List}
use native.Mathlib.Omega.{arith}
use native.Mathlib.Nat.{div-one}
use lib.Dec.{leb, ltb}
use lib.ListN.{length, set}
use mir.Syntax.{w64}
use mir.Val.{Fits}
use Rattle.printout.specs.Print.{hex_digit}
use Rattle.number_text.proofs.Hex.{digit_below, first_stored, first_digits, hex_first, next_stored}
use Rattle.number_text.proofs.Stores.{stored_length}
use Rattle.number_text.specs.Stored.{Stored}
use borrow.Author.Rules.{rules}
use borrow.Author.Tests.{leb-true, ltb-true}
use Rattle.number_text.proofs.put_hex.Statement.{statement}
use Rattle.number_text.proofs.put_hex.Tie as tie

-- ---- where the function began, and the buffer with so many digits stored
record Place (digits : ℕ) : Type 0 where
  start : tie.After-slice_known-1
  after : List ℕ
  stored : let a = start.before.args in Stored (first_digits digits a.n) a.out.now a.at after (a.at + digits)

abbrev next : {k : ℕ} (p : Place k) (d : ℕ) → d ≡ hex_digit (p.start.before.args.n / 16 ^ (15 - k) % 16) → Place (suc k)
next {k} p d same =
    let a = p.start.before.args in
    record { start = p.start; after = set p.after (a.at + k) d; stored = next_stored a.n k d p.stored same }

-- the index of the next digit; looked for at the start, since among all that is known at a late place the search is slow
next_fits : {k : ℕ} (p : Place k) → leb k 16 ≡ true → Fits w64 (p.start.before.args.at + k)
next_fits {k} p few = let s = p.start in let most = leb-true k 16 few in search rules

next_below : {k : ℕ} (p : Place k) → ltb k 16 ≡ true → p.start.before.args.at + k < length p.after
next_below {k} p few = omega (arith, ltb-true k 16 few, stored_length p.stored, p.start.requires)

-- ---- the buffer once the first digit is stored, the second, and so on
abbrev at_1 : tie.After-hex_digit → Place 1
at_1 c =
    let a = c.args in
    let d = c.hex_digit in
    record { start = c.before; after = set a.out.now a.at d.result; stored = first_stored a.out.now a.at a.n d.result d.ensures }

abbrev at_2 : tie.After-hex_digit-2 → Place 2
at_2 c = next (at_1 c.before) c.hex_digit-2.result c.hex_digit-2.ensures

abbrev at_3 : tie.After-hex_digit-3 → Place 3
at_3 c = next (at_2 c.before) c.hex_digit-3.result c.hex_digit-3.ensures

abbrev at_4 : tie.After-hex_digit-4 → Place 4
at_4 c = next (at_3 c.before) c.hex_digit-4.result c.hex_digit-4.ensures

abbrev at_5 : tie.After-hex_digit-5 → Place 5
at_5 c = next (at_4 c.before) c.hex_digit-5.result c.hex_digit-5.ensures

abbrev at_6 : tie.After-hex_digit-6 → Place 6
at_6 c = next (at_5 c.before) c.hex_digit-6.result c.hex_digit-6.ensures

abbrev at_7 : tie.After-hex_digit-7 → Place 7
at_7 c = next (at_6 c.before) c.hex_digit-7.result c.hex_digit-7.ensures

abbrev at_8 : tie.After-hex_digit-8 → Place 8
at_8 c = next (at_7 c.before) c.hex_digit-8.result c.hex_digit-8.ensures

abbrev at_9 : tie.After-hex_digit-9 → Place 9
at_9 c = next (at_8 c.before) c.hex_digit-9.result c.hex_digit-9.ensures

abbrev at_10 : tie.After-hex_digit-10 → Place 10
at_10 c = next (at_9 c.before) c.hex_digit-10.result c.hex_digit-10.ensures

abbrev at_11 : tie.After-hex_digit-11 → Place 11
at_11 c = next (at_10 c.before) c.hex_digit-11.result c.hex_digit-11.ensures

abbrev at_12 : tie.After-hex_digit-12 → Place 12
at_12 c = next (at_11 c.before) c.hex_digit-12.result c.hex_digit-12.ensures

abbrev at_13 : tie.After-hex_digit-13 → Place 13
at_13 c = next (at_12 c.before) c.hex_digit-13.result c.hex_digit-13.ensures

abbrev at_14 : tie.After-hex_digit-14 → Place 14
at_14 c = next (at_13 c.before) c.hex_digit-14.result c.hex_digit-14.ensures

abbrev at_15 : tie.After-hex_digit-15 → Place 15
at_15 c = next (at_14 c.before) c.hex_digit-15.result c.hex_digit-15.ensures

abbrev at_16 : tie.After-hex_digit-16 → Place 16
at_16 c =
    let p = at_15 c.before in
    next p c.hex_digit-16.result (rw (← div-one p.start.before.args.n) at c.hex_digit-16.ensures)

returns : tie.Need-returns
returns c =
    let p = at_16 c in
    let s = p.start in
    rw (hex_first s.args.n (omega (arith, s.ranges.n.fits))) p.stored

pub put_hex_spec : {M : Type 1} → statement M
put_hex_spec =
    tie.close
    (tie.spec
    (λ c κs. digit_below _)
    (λ c. search rules)
    (λ c κs. digit_below _)
    (λ c. next_fits (at_1 c.before) refl)
    (λ c. next_below (at_1 c.before) refl)
    (λ c κs. digit_below _)
    (λ c. next_fits (at_2 c.before) refl)
    (λ c. next_below (at_2 c.before) refl)
    (λ c κs. digit_below _)
    (λ c. next_fits (at_3 c.before) refl)
    (λ c. next_below (at_3 c.before) refl)
    (λ c κs. digit_below _)
    (λ c. next_fits (at_4 c.before) refl)
    (λ c. next_below (at_4 c.before) refl)
    (λ c κs. digit_below _)
    (λ c. next_fits (at_5 c.before) refl)
    (λ c. next_below (at_5 c.before) refl)
    (λ c κs. digit_below _)
    (λ c. next_fits (at_6 c.before) refl)
    (λ c. next_below (at_6 c.before) refl)
    (λ c κs. digit_below _)
    (λ c. next_fits (at_7 c.before) refl)
    (λ c. next_below (at_7 c.before) refl)
    (λ c κs. digit_below _)
    (λ c. next_fits (at_8 c.before) refl)
    (λ c. next_below (at_8 c.before) refl)
    (λ c κs. digit_below _)
    (λ c. next_fits (at_9 c.before) refl)
    (λ c. next_below (at_9 c.before) refl)
    (λ c κs. digit_below _)
    (λ c. next_fits (at_10 c.before) refl)
    (λ c. next_below (at_10 c.before) refl)
    (λ c κs. digit_below _)
    (λ c. next_fits (at_11 c.before) refl)
    (λ c. next_below (at_11 c.before) refl)
    (λ c κs. digit_below _)
    (λ c. next_fits (at_12 c.before) refl)
    (λ c. next_below (at_12 c.before) refl)
    (λ c κs. digit_below _)
    (λ c. next_fits (at_13 c.before) refl)
    (λ c. next_below (at_13 c.before) refl)
    (λ c κs. digit_below _)
    (λ c. next_fits (at_14 c.before) refl)
    (λ c. next_below (at_14 c.before) refl)
    (λ c κs. digit_below _)
    (λ c. next_fits (at_15 c.before) refl)
    (λ c. next_below (at_15 c.before) refl)
    (λ c. next_fits (at_16 c) refl)
    (λ c. stored_length (returns c))
    returns)
