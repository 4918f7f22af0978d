-- Which graph a world is: the names of its elements, what each needs by name, and what waits in the order of staging.
use Rattle.std.specs.Prelude.{◌≡◌, ◌⊎◌, ◌↔◌, ◌<◌, ◌≤◌, ◌∷◌, ◌++◌, ℕ, suc, true, false, List, [], Contains, length, slice_index, if◌then◌else◌}
use Rattle.cs_deps.specs.declared.elements.Element.{Element as Name}
use Rattle.cs_deps.specs.declared.elements.Element.TheVariants.{Plain, Version}
use Rattle.cs_deps.specs.Named.{Named, Names}
use Rattle.cs_deps.specs.Pending.{Pending, Waits}
use Rattle.cs_extent.specs.Frames.{family_of}
use Rattle.law_machine.specs.Lists.{◌∈◌}
use Rattle.law_machine.specs.Device.{Shape}
use Rattle.law_machine.specs.Element.{Element, A_write, A_superblock, A_root, Write, Superblock, Root, writes_of}
use Rattle.law_machine.specs.Cut.{Cut, Within, section_of, satisfied}
use Rattle.law_machine.specs.Machine.{World}

-- the element of the graph that an element of the machine is: each section has its family, and the root has family 1
abbrev pub name : Element → Name
name (A_write x) = Plain x.number
name (A_superblock u) = Version (family_of u.section) u.version
name (A_root r) = Version 1 r.version

-- it needs the element of this name, where these were staged
abbrev pub NeedsName : Shape → List Element → Element → Name → Type 0
NeedsName S staged (A_write x) (Plain n) = ⊥
NeedsName S staged (A_write x) (Version f v) = (f ≡ 1) × (1 ≤ v) × (v ≤ x.root)
NeedsName S staged (A_superblock u) (Plain n) = (x : Write) × (x ∈ writes_of staged) × (section_of S x.page ≡ u.section) × (x.number ≤ u.writes) × (x.number ≡ n)
NeedsName S staged (A_superblock u) (Version f v) = (f ≡ 1) × (1 ≤ v) × (v ≤ u.root)
NeedsName S staged (A_root r) (Plain n) = (x : Write) × (x ∈ writes_of staged) × (x.number ≤ r.pages) × (x.number ≡ n)
NeedsName S staged (A_root r) (Version f v) = (j : ℕ) × (j < S.sections) × (f ≡ family_of j) × (1 ≤ v) × (v ≤ r.superblocks j)

-- what isn't satisfied in P, oldest first
abbrev pub waiting_in : Cut → List Element → List Element
waiting_in P [] = []
waiting_in P (x ∷ older) = if satisfied P x then waiting_in P older else waiting_in P older ++ x ∷ []

-- what may be left out of an element's needs, where P is persistent: where there are several sections, a version of one may leave out plain
-- writes that are persistent
abbrev pub MayLeaveOut : Shape → Cut → Element → Name → Type 0
MayLeaveOut S P (A_write x) z = ⊥
MayLeaveOut S P (A_superblock u) (Plain n) = (1 < S.sections) × (P.writes n ≡ true)
MayLeaveOut S P (A_superblock u) (Version f v) = ⊥
MayLeaveOut S P (A_root r) z = ⊥

-- d names nothing that x doesn't need, and all that it needs but what may be left out
pub record AreNeedsOf (S : Shape) (P : Cut) (staged : List Element) (x : Element) (d : Named) : Type 0 where
  pub only : (z : Name) → Names d z → NeedsName S staged x z
  pub all : (z : Name) → NeedsName S staged x z → Names d z ⊎ MayLeaveOut S P x z

-- d names what this element needs that is staged next in the world, all but what may be left out
abbrev pub AreNextNeeds : Shape → World → Element → Named → Type 0
AreNextNeeds S w x d = AreNeedsOf S w.persistent (x ∷ w.elements) x d

-- d names exactly what this element needs that is staged next in the world
abbrev pub AreExactNeeds : Shape → World → Element → Named → Type 0
AreExactNeeds S w x d = (z : Name) → Names d z ↔ NeedsName S (x ∷ w.elements) x z

-- each element stands in the graph by its name, with its needs
abbrev pub Matches : Shape → Cut → List Element → List Element → List (Name × Named) → Type 0
Matches S P staged [] [] = Unit {0}
Matches S P staged (x ∷ xs) (y ∷ ys) = ((y.0 ≡ name x) × AreNeedsOf S P staged x y.1) × Matches S P staged xs ys
Matches S P staged [] (y ∷ ys) = ⊥
Matches S P staged (x ∷ xs) [] = ⊥

-- the graph of a world
pub record IsPendingOf (S : Shape) (w : World) (g : Pending) : Type 0 where
  pub families : length g.persistent ≡ suc S.sections
  pub root : slice_index g.persistent 1 ≡ w.persistent.root
  pub sections : (j : ℕ) → j < S.sections → slice_index g.persistent (family_of j) ≡ w.persistent.superblocks j
  pub waiting : Matches S w.persistent w.elements (waiting_in w.persistent w.elements) g.waiting

-- X is P with these elements
pub record IsCutOf (P : Cut) (ms : List Element) (X : Cut) : Type 0 where
  pub low : Within P X
  pub has : (m : Element) → m ∈ ms → satisfied X m ≡ true
  pub writes : (n : ℕ) → X.writes n ≡ true → (P.writes n ≡ true) ⊎ ((x : Write) × (A_write x ∈ ms) × (x.number ≡ n))
  pub superblocks : (j : ℕ) → (X.superblocks j ≡ P.superblocks j) ⊎ ((u : Superblock) × (A_superblock u ∈ ms) × (u.section ≡ j) × (u.version ≡ X.superblocks j))
  pub root : (X.root ≡ P.root) ⊎ ((r : Root) × (A_root r ∈ ms) × (r.version ≡ X.root))

-- a list has exactly the names of these
abbrev pub AreNames : List Element → List Name → Type 0
AreNames ms xs = (z : Name) → Contains xs z ↔ ((m : Element) × (m ∈ ms) × (name m ≡ z))

-- staged, and not satisfied in what is persistent
abbrev pub IsWaiting : World → Element → Type 0
IsWaiting w m = (m ∈ w.elements) × (satisfied w.persistent m ≡ false)

-- the target names all that waits
abbrev pub NamesAll : Pending → Named → Type 0
NamesAll g target = (x : Name) → Waits g x → Names target x
