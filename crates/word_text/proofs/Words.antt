-- Lines as words with single blanks between them, one word at a time.
use Rattle.std.specs.Prelude.{Option, Some, None}
use Prim.Native.Nat.{ℕ, ◌+◌}
use mathlib.Core.Path.{◌≡◌, refl}
use mathlib.Core.List.{List, [], ◌∷◌, ◌++◌}
use native.Mathlib.Omega.{arith}
use lib.ListN.{length, length-append}
use Rattle.number_text.specs.Stored.{Stored}
use Rattle.printout.specs.Text.{ascii}
use Rattle.printout.specs.Print.{wakes_words, words}

-- how long a line is, by its first word
last_length : (w : List ℕ) → length (words (w ∷ [])) ≡ length w + 1
unfolding words
last_length w = length-append w (10 ∷ [])

more_length : (w v : List ℕ) (ws : List (List ℕ)) → length (words (w ∷ v ∷ ws)) ≡ length w + 1 + length (words (v ∷ ws))
unfolding words
more_length w v ws = simp length-append

pub one_length : (w v : List ℕ) → length (words (w ∷ v ∷ [])) ≡ length w + length v + 2
one_length w v = omega (arith, more_length w v [], last_length v)

pub two_length : (w v u : List ℕ) → length (words (w ∷ v ∷ u ∷ [])) ≡ length w + length v + length u + 3
two_length w v u = omega (arith, more_length w v (u ∷ []), one_length v u)

-- the index after a word and the byte after it
pub past : {before after : List ℕ} {at answer : ℕ} (w : List ℕ) (byte : ℕ) → Stored (w ++ byte ∷ []) before at after answer → answer ≡ at + length w + 1
past {before} {after} {at} {answer} w byte s = omega (arith, s.ends, length-append w (byte ∷ []))

-- a word before those of a wake, of which there is always one
pub before_wakes : (w : List ℕ) (x : Option ℕ) → words (w ∷ wakes_words x) ≡ (w ++ 32 ∷ []) ++ words (wakes_words x)
unfolding words
before_wakes w (Some i) = refl
before_wakes w None = refl

pub wakes_length : (w : List ℕ) (x : Option ℕ) → length (words (w ∷ wakes_words x)) ≡ length w + 1 + length (words (wakes_words x))
wakes_length w x = rw (before_wakes w x) (simp length-append)

pub region_length : (v u : List ℕ) (x : Option ℕ) → length (words (ascii "region" ∷ v ∷ u ∷ wakes_words x)) ≡ length v + length u + length (words (wakes_words x)) + 9
region_length v u x = omega (arith, more_length (ascii "region") v (u ∷ wakes_words x), more_length v u (wakes_words x), wakes_length u x)
