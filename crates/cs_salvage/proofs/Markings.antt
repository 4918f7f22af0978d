-- Places that mean the frames of parts.
use Rattle.std.proofs.Common.{◌≡◌, ℕ, zero, suc, ◌<◌, List, [], ◌∷◌, length, map, get_or, refl, ap, ap₂, arith}
use Rattle.cs_frame.specs.declared.locators.Locator.{Locator}
use Rattle.cs_frame.specs.Formats.{place_of}
use Rattle.cs_salvage.specs.Namings.{AreMarked, mark_of}
use Rattle.cs_salvage.specs.declared.parts.Part.{Part}

-- as many, with one mark each
pub all_marked : (places : List Locator) (parts : List Part) → length places ≡ length parts → ((j : ℕ) (d : Locator) (e : Part) → j < length places → (get_or places j d).mark ≡ mark_of (get_or parts j e))
    → AreMarked (map place_of places) parts
all_marked [] [] same each = refl
all_marked [] (q ∷ parts) same each = absurd (omega (arith, same))
all_marked (l ∷ places) [] same each = absurd (omega (arith, same))
all_marked (l ∷ places) (q ∷ parts) same each = ap₂ (λ (n : ℕ) (ns : List ℕ). n ∷ ns) (each zero l q (omega arith)) (all_marked places parts (omega (arith, same)) (λ j d e lt. each (suc j) d e (omega (arith, lt))))

pub as_many : (places : List Locator) (parts : List Part) → AreMarked (map place_of places) parts → length places ≡ length parts
as_many [] [] is = refl
as_many [] (q ∷ parts) is = absurd (cc is)
as_many (l ∷ places) [] is = absurd (cc is)
as_many (l ∷ places) (q ∷ parts) is = ap suc (as_many places parts (cc is))

pub one_marked : (places : List Locator) (parts : List Part) → AreMarked (map place_of places) parts → (j : ℕ) (d : Locator) (e : Part) → j < length places → (get_or places j d).mark ≡ mark_of (get_or parts j e)
one_marked [] parts is j d e lt = absurd (omega (arith, lt))
one_marked (l ∷ places) [] is j d e lt = absurd (cc is)
one_marked (l ∷ places) (q ∷ parts) is zero d e lt = cc is
one_marked (l ∷ places) (q ∷ parts) is (suc j) d e lt = one_marked places parts (cc is) j d e (omega (arith, lt))

-- the place that stands for none
abbrev pub no_place : Locator
no_place = record { extent = 0; page = 0; generation = 0; mark = 0 }
