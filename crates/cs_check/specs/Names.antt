-- How elements are named in a document.
use Rattle.std.specs.Prelude.{◌≡◌, ℕ, ◌^◌, ◌≤◌, ◌<◌, List, ◌∷◌, All, AllPairs, decimal, length, slice_index}
use Rattle.cs_deps.specs.declared.elements.Element.{Element}
use Rattle.cs_deps.specs.declared.elements.Element.TheVariants.{Plain, Version}

-- the letter of plain writes, `w`
abbrev pub plain_letter : ℕ
plain_letter = 119

-- `a` to `z`, but not that of plain writes
abbrev pub IsLetter : ℕ → Type 0
IsLetter c = (97 ≤ c) × (c ≤ 122) × (c ≡ plain_letter → ⊥)

-- one letter for each family, each of them once
abbrev pub AreLetters : List ℕ → Type 0
AreLetters letters = All IsLetter letters × AllPairs (λ a b. a ≡ b → ⊥) letters

-- the number of a plain write or a version
abbrev pub IsNumber : ℕ → Type 0
IsNumber n = (1 ≤ n) × (n < 2 ^ 63)

-- an element that has a name
abbrev pub IsName : List ℕ → Element → Type 0
IsName letters (Plain n) = IsNumber n
IsName letters (Version f v) = (f < length letters) × IsNumber v

-- a letter, and the number in decimal
abbrev pub name_of : List ℕ → Element → List ℕ
name_of letters (Plain n) = plain_letter ∷ decimal n
name_of letters (Version f v) = slice_index letters f ∷ decimal v
