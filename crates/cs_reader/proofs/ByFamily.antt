-- The versions of sections and root, by families.
use Rattle.std.proofs.Common.{◌≡◌, ℕ, zero, suc, ◌<◌, List, [], ◌∷◌, length, refl, arith}
use Rattle.std.specs.Prelude.{slice_index}
use Rattle.cs_extent.specs.Frames.{family_of, root_family}
use Rattle.cs_reader.specs.Loads.{by_family}

pub length-by_family : (versions : List ℕ) (root : ℕ) → length (by_family versions root) ≡ suc (length versions)
length-by_family [] root = refl
length-by_family (version ∷ versions) root = refl

pub section_in : (versions : List ℕ) (root j : ℕ) → j < length versions → slice_index (by_family versions root) (family_of j) ≡ slice_index versions j
section_in [] root j lt = absurd (omega (arith, lt))
section_in (version ∷ versions) root zero lt = refl
section_in (version ∷ versions) root (suc j) lt = refl

pub root_in : (versions : List ℕ) (root : ℕ) → 0 < length versions → slice_index (by_family versions root) root_family ≡ root
root_in [] root some = absurd (omega (arith, some))
root_in (version ∷ versions) root some = refl
