-- Texts as the bytes that are printed.
use Rattle.std.specs.Prelude.{ℕ}
use Prim.Native.Char.{code}
use Prim.Native.String.{String, [], ◌∷◌}
use mathlib.Core.List as list

-- the bytes of a text of ASCII characters
abbrev pub ascii : String → list.List ℕ
ascii [] = list.[]
ascii (c ∷ text) = list.◌∷◌ (code c) (ascii text)
