-- A record's eight bytes, as std writes and reads them.
use Rattle.std.proofs.Common.{◌≡◌, ℕ, ◌+◌, ◌-◌, ◌^◌, ◌<◌, ◌≤◌, List, [], ◌∷◌, ◌++◌, length, take, drop, refl, sym, ap, ap₂, ◌∙◌, append_assoc, arith, w64}
use Rattle.std.specs.Int.{to_be_bytes, from_be_bytes}
use Rattle.std.proofs.lemmas.List.Edits.{sets, sets-eq}
use borrow.Rule.Slice.PartMut.{put_mid, Post-is}
use Rattle.event.specs.BigEndian.{big_endian, number_of}

then : {a b : ℕ} {xs ys : List ℕ} → a ≡ b → xs ≡ ys → a ∷ xs ≡ b ∷ ys
then e f = ap₂ (λ (x : ℕ) (l : List ℕ). x ∷ l) e f

pub eight_bytes : (n : ℕ) → n < 2 ^ 64 → to_be_bytes w64 n ≡ big_endian 8 n
unfolding big_endian
eight_bytes n h =
    then (omega arith) (then (omega arith) (then (omega arith) (then (omega arith) (then (omega arith) (then (omega arith) (then (omega arith) (then (omega arith) refl)))))))

pub number_read : (xs : List ℕ) → length xs ≡ 8 → from_be_bytes w64 xs ≡ number_of xs
unfolding number_of
number_read [] l = absurd (omega arith)
number_read (a ∷ []) l = absurd (omega arith)
number_read (a ∷ b ∷ []) l = absurd (omega arith)
number_read (a ∷ b ∷ c ∷ []) l = absurd (omega arith)
number_read (a ∷ b ∷ c ∷ d ∷ []) l = absurd (omega arith)
number_read (a ∷ b ∷ c ∷ d ∷ e ∷ []) l = absurd (omega arith)
number_read (a ∷ b ∷ c ∷ d ∷ e ∷ f ∷ []) l = absurd (omega arith)
number_read (a ∷ b ∷ c ∷ d ∷ e ∷ f ∷ g ∷ []) l = absurd (omega arith)
number_read (a ∷ b ∷ c ∷ d ∷ e ∷ f ∷ g ∷ h ∷ []) l = omega arith
number_read (a ∷ b ∷ c ∷ d ∷ e ∷ f ∷ g ∷ h ∷ i ∷ l) m = absurd (omega arith)

-- ---- a part of the book
pub put_back : (book bytes : List ℕ) (at : ℕ) → at + 8 ≤ length book → length bytes ≡ 8 → put_mid at (at + 8 - at) book bytes ≡ sets book at bytes
put_back book bytes at h e =
    let end : at + 8 ≡ at + length bytes = omega arith in
    ap (λ (l : List ℕ). take at book ++ (bytes ++ l)) (Post-is at (at + 8) book (omega arith) ∙ ap (λ (k : ℕ). drop k book) end)
    ∙ sym (append_assoc (take at book) bytes (drop (at + length bytes) book)) ∙ sym (sets-eq bytes book at (omega arith))
