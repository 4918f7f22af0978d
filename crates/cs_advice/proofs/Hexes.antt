-- Bytes that are printed in hex digits, one after another.
use Rattle.std.proofs.Common.{◌≡◌, ◌∙◌, ℕ, ◌/◌, ◌%◌, List, [], ◌∷◌, ◌++◌, length, append_assoc, ap, refl, sym, arith}
use Rattle.std.proofs.lemmas.List.{append-nil}
use Rattle.std.specs.Prelude.{slice_index}
use Rattle.hex.specs.Hex.{encode_with, encode_lower, lower_digits}

-- the digits of some bytes, and then those of others
encode_append : (t xs ys : List ℕ) → encode_with t (xs ++ ys) ≡ encode_with t xs ++ encode_with t ys
unfolding encode_with
encode_append t [] ys = refl
encode_append t (x ∷ xs) ys = ap (λ l. slice_index t (x / 16) ∷ slice_index t (x % 16) ∷ l) (encode_append t xs ys)

pub no_digit : [] ≡ encode_lower []
unfolding encode_with
no_digit = refl

pub digits_more : (done piece : List ℕ) → encode_lower (done ++ piece) ≡ encode_lower done ++ encode_lower piece
digits_more done piece = encode_append lower_digits done piece

-- what is left begins with a piece
pub one_more : (bytes done rest piece left : List ℕ) → bytes ≡ done ++ rest → rest ≡ piece ++ left → bytes ≡ (done ++ piece) ++ left
one_more bytes done rest piece left is begins = is ∙ ap (λ (xs : List ℕ). done ++ xs) begins ∙ sym (append_assoc done piece left)

-- nothing is left
pub all_done : (bytes done rest : List ℕ) → bytes ≡ done ++ rest → length rest ≡ 0 → done ≡ bytes
all_done bytes done [] is none = sym (is ∙ append-nil done)
all_done bytes done (x ∷ xs) is none = absurd (omega (arith, none))
