-- What a locator says of the frame that it means, beside its place: a mark.
use Rattle.std.specs.Prelude.{◌∷◌, ◌==◌, ℕ, Bool, List, []}

-- a mark is a number
abbrev pub Mark : Type 0
Mark = ℕ

-- two marks are one
abbrev pub same_mark : Mark → Mark → Bool
same_mark a b = a == b

-- the mark of a frame of these pages: that of its first page
abbrev pub first_mark : (List ℕ → Mark) → List (List ℕ) → Mark
first_mark mark [] = 0
first_mark mark (page ∷ pages) = mark page
