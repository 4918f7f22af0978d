-- Sets of elements, and when one is closed.
use Rattle.std.specs.Prelude.{◌≡◌, ◌<◌, ◌≤◌, ◌&&◌, ◌||◌, ◌∷◌, ◌==◌, ℕ, Bool, true, List, nat_le, []}
use Rattle.law_machine.specs.Device.{Page, Shape}
use Rattle.law_machine.specs.Element.{A_root, A_superblock, A_write, Element, Log, Root, Superblock, Write}
use Rattle.law_machine.specs.Lists.{latest, with, ◌∈◌}

-- a set of elements, by what it satisfies: plain writes by number, and the greatest version of each family
pub record Cut : Type 0 where
  pub writes : ℕ → Bool
  pub superblocks : ℕ → ℕ
  pub root : ℕ

-- Y has all that X has
pub record Within (X Y : Cut) : Type 0 where
  pub writes : (n : ℕ) → X.writes n ≡ true → Y.writes n ≡ true
  pub superblocks : (j : ℕ) → X.superblocks j ≤ Y.superblocks j
  pub root : X.root ≤ Y.root

-- a set whose greatest version of each family is staged
pub record Exact (sections : ℕ) (log : Log) (X : Cut) : Type 0 where
  pub superblock : ℕ → Superblock
  pub superblocks : (j : ℕ) → j < sections
      → (superblock j ∈ log.superblocks) × ((superblock j).section ≡ j) × ((superblock j).version ≡ X.superblocks j)
  pub root : (r : Root) × (r ∈ log.roots) × (r.version ≡ X.root)

-- the page in the image of X: the last write to it that X has, else what was there when the store was opened
abbrev pub page_in : Cut → (ℕ → Page) → List Write → ℕ → Page
page_in X opened ws p = latest (λ w. (w.page == p) && X.writes w.number) (λ w. w.bytes) (opened p) ws

-- what was staged up to a root, as a section sees it
abbrev pub held_by : Root → ℕ → Cut
held_by r j = record { writes = λ n. nat_le n (r.writes j); superblocks = r.superblocks; root = r.version }

module _ (S : Shape) where
  -- the section that speaks of a page's extent
  abbrev pub section_of : ℕ → ℕ
  section_of page = S.section (S.extent page)

  -- every need of what X has is satisfied in X
  pub record Closed (log : Log) (X : Cut) : Type 0 where
    pub write_root : (w : Write) → w ∈ log.writes → X.writes w.number ≡ true → w.root ≤ X.root
    pub superblock_root : (u : Superblock) → u ∈ log.superblocks → u.version ≤ X.superblocks u.section
        → u.root ≤ X.root
    pub superblock_writes : (u : Superblock) (w : Write) → u ∈ log.superblocks → w ∈ log.writes
        → u.version ≤ X.superblocks u.section → section_of w.page ≡ u.section → w.number ≤ u.writes
        → X.writes w.number ≡ true
    pub root_superblocks : (r : Root) → r ∈ log.roots → r.version ≤ X.root
        → (j : ℕ) → r.superblocks j ≤ X.superblocks j
    pub root_writes : (r : Root) (w : Write) → r ∈ log.roots → w ∈ log.writes → r.version ≤ X.root → w.number ≤ r.pages
        → X.writes w.number ≡ true

-- X with one element more
abbrev pub join : Cut → Element → Cut
join X (A_write x) = record X { writes = λ n. (n == x.number) || X.writes n }
join X (A_superblock u) = record X { superblocks = with X.superblocks u.section u.version }
join X (A_root r) = record X { root = r.version }

-- X with these elements, one after another
abbrev pub join_all : Cut → List Element → Cut
join_all X [] = X
join_all X (m ∷ ms) = join_all (join X m) ms

-- the element is satisfied in X: X has it or a later version of its family
abbrev pub satisfied : Cut → Element → Bool
satisfied X (A_write x) = X.writes x.number
satisfied X (A_superblock u) = nat_le u.version (X.superblocks u.section)
satisfied X (A_root r) = nat_le r.version X.root

-- x needs y
abbrev pub Needs : Shape → Element → Element → Type 0
Needs S (A_write x) (A_root r) = r.version ≤ x.root
Needs S (A_superblock u) (A_write x) = (section_of S x.page ≡ u.section) × (x.number ≤ u.writes)
Needs S (A_superblock u) (A_root r) = r.version ≤ u.root
Needs S (A_root r) (A_superblock u) = u.version ≤ r.superblocks u.section
Needs S (A_root r) (A_write x) = x.number ≤ r.pages
Needs S x y = ⊥
