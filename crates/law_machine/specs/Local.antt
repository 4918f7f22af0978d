-- The pages of a device that a store looks at.
use Rattle.std.specs.Prelude.{◌≡◌, ◌<◌, ℕ}
use Rattle.law_machine.specs.Device.{Inside, Page, Shape}

-- the root, each section of the superblock and each page of an extent lie on the first `count` pages
pub record LiesBelow (S : Shape) (count : ℕ) : Type 0 where
  pub root : S.root_page < count
  pub sections : (j : ℕ) → j < S.sections → S.section_page j < count
  pub frames : (e i : ℕ) → Inside S e i → S.address e i < count

-- two images have the same first `count` pages
abbrev pub AgreeBelow : (count : ℕ) → (a b : ℕ → Page) → Type 0
AgreeBelow count a b = (p : ℕ) → p < count → a p ≡ b p
