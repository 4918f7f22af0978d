-- The versions of sections and root that a graph begins with.
use Rattle.std.proofs.Common.{◌≡◌, ◌∙◌, ℕ, suc, ◌^◌, ◌<◌, ◌≤◌, List, [], ◌∷◌, Some, length, map, refl, take, sym, ap, subst, arith}
use Rattle.std.specs.Prelude.{All, slice_get}
use Rattle.std.specs.List.{AllByRecursion, insert}
use Rattle.std.proofs.lemmas.List.{length-map, take_all}
use Rattle.std.proofs.lemmas.List.Elements.{All-from_recursion}
use Rattle.cs_extent.proofs.Sections.{geometry_is}
use Rattle.cs_extent.specs.Sections.{AreSections}
use Rattle.cs_frame.proofs.GeometryLaws.{bounds}
use Rattle.cs_frame.specs.declared.superblocks.Superblock.{Superblock}
use Rattle.cs_reader.proofs.ByFamily.{length-by_family}
use Rattle.cs_reader.specs.Loads.{by_family}

inserted : (versions : List ℕ) (root : ℕ) → 0 < length versions → insert versions 1 root ≡ by_family versions root
inserted [] root some = absurd (omega (arith, some))
inserted (version ∷ versions) root some = refl

-- the versions of the sections were gone through, and the root's was put after the first
pub by_rows : (sections : List Superblock) → 0 < length sections → (root k : ℕ) (items all : List ℕ) → items ≡ map (λ (it : Superblock). it.version) (take k sections) → length sections ≤ k → all ≡ insert items 1 root
    → all ≡ by_family (map (λ (it : Superblock). it.version) sections) root
by_rows sections some root k items all are end is =
    is ∙ ap (λ (xs : List ℕ). insert xs 1 root) (are ∙ ap (map (λ (it : Superblock). it.version)) (take_all k sections end))
    ∙ inserted (map (λ (it : Superblock). it.version) sections) root (omega (arith, length-map sections (λ (it : Superblock). it.version), some))

abbrev IsSmall : ℕ → Type 0
IsSmall v = v < 2 ^ 63

small_versions : (sections : List Superblock) → ((k : ℕ) (it : Superblock) → slice_get sections k ≡ Some it → it.version < 2 ^ 63)
    → AllByRecursion IsSmall (map (λ (it : Superblock). it.version) sections)
small_versions [] each = tt
small_versions (it ∷ sections) each = (each 0 it refl, small_versions sections (λ k other at. each (suc k) other at))

small_family : (versions : List ℕ) (root : ℕ) → AllByRecursion IsSmall versions → root < 2 ^ 63 → AllByRecursion IsSmall (by_family versions root)
small_family [] root all few = (few, tt)
small_family (version ∷ versions) root all few = (all.0, (few, all.1))

module _ (sections : List Superblock) (are : AreSections sections) (root : ℕ) (items : List ℕ) (is : items ≡ by_family (map (λ (it : Superblock). it.version) sections) root) where
  pub families_fit : (1 ≤ length items) × (length items ≤ 16)
  families_fit =
      let many : length sections ≤ 15 = (bounds _ _ _ _ (geometry_is sections are)).most_sections in
      let long : length items ≡ suc (length sections) = ap length is ∙ length-by_family (map (λ (it : Superblock). it.version) sections) root
      ∙ ap suc (length-map sections (λ (it : Superblock). it.version)) in
      (omega (arith, long), omega (arith, long, many))

  pub numbers_fit : root < 2 ^ 63 → All (λ v. v < 2 ^ 63) items
  numbers_fit few = subst (All IsSmall) (sym is) (All-from_recursion IsSmall (by_family (map (λ (it : Superblock). it.version) sections) root)
      (small_family (map (λ (it : Superblock). it.version) sections) root (small_versions sections (λ k it at. (are.each k it at).is.last_version)) few))
