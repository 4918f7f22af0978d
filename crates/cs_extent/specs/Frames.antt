-- What is staged with a frame.
use Rattle.std.specs.Prelude.{◌≡◌, ◌≢◌, ◌↔◌, ◌⊎◌, ◌+◌, ◌^◌, ◌<◌, ◌≤◌, ◌==◌, ◌++◌, if◌then◌else◌, ℕ, zero, suc, Bool, max, List, [], length, Some, slice_get, slice_index, slice_index_or, slice_set}
use Rattle.cs_deps.specs.declared.elements.Element.{Element}
use Rattle.cs_deps.specs.declared.elements.Element.TheVariants.{Plain, Version}
use Rattle.cs_deps.specs.Named.{Named, Names}
use Rattle.cs_deps.specs.Pending.{WaitsAt}
use Rattle.cs_deps.specs.Staging.{Staging, IsVersionStaged}
use Rattle.cs_deps.specs.State.{State, Write, write_of}
use Rattle.cs_frame.specs.declared.locators.Locator.{Locator}
use Rattle.cs_frame.specs.Superblocks.{record_in}
use Rattle.law_machine.specs.Extents.{Extents}
use Rattle.law_machine.specs.Format.{Format}

-- the family of the root's versions
abbrev pub root_family : ℕ
root_family = 1

-- the family of a section's versions: sections and root are numbered as they lie on the device
abbrev pub family_of : (section : ℕ) → ℕ
family_of zero = 0
family_of (suc j) = suc (suc j)

-- where a frame of this mark begins that goes to e
abbrev pub next_place : Extents → ℕ → (mark : ℕ) → Locator
next_place x e mark = record { extent = e; page = x.pointer e; generation = x.generation e; mark = mark }

-- the greatest of the numbers below n
abbrev pub greatest : (ℕ → ℕ) → ℕ → ℕ
greatest f zero = 0
greatest f (suc n) = max (f n) (greatest f n)

-- versions 1 to v of a family
abbrev pub IsVersionUpTo : (family v : ℕ) → Element → Type 0
IsVersionUpTo family v (Plain n) = ⊥
IsVersionUpTo family v (Version f w) = (f ≡ family) × (1 ≤ w) × (w ≤ v)

-- plain writes from first to last, and versions 1 to v of the root
abbrev pub IsSectionNeed : (first last v : ℕ) → Element → Type 0
IsSectionNeed first last v (Plain m) = (first ≤ m) × (m ≤ last)
IsSectionNeed first last v (Version f w) = IsVersionUpTo root_family v (Version f w)

-- of each section's family the versions up to the latest
abbrev pub IsSectionVersionUpTo : (latest : List ℕ) → Element → Type 0
IsSectionVersionUpTo latest (Plain n) = ⊥
IsSectionVersionUpTo latest (Version f v) = (f ≢ root_family) × (1 ≤ v) × (v ≤ slice_index latest f)

-- plain writes 1 to `pages`, and of each section's family the versions up to the latest
abbrev pub IsRootNeed : (pages : ℕ) → (latest : List ℕ) → Element → Type 0
IsRootNeed pages latest (Plain n) = (1 ≤ n) × (n ≤ pages)
IsRootNeed pages latest (Version f v) = IsSectionVersionUpTo latest (Version f v)

-- the next version of section j
abbrev pub next_section : Staging → (j : ℕ) → Element
next_section s j = Version (family_of j) (slice_index s.latest (family_of j) + 1)

-- these needs name the next version of section j and all before it
abbrev pub NamesNextSection : Staging → (j : ℕ) → Named → Type 0
NamesNextSection s j needs = (x : Element) → Names needs x ↔ IsVersionUpTo (family_of j) (slice_index s.latest (family_of j) + 1) x

-- what a section's version that is staged then records in a format: the version of the root that is persistent
abbrev pub root_recorded : Format → Staging → ℕ
root_recorded format s = record_in format (slice_index s.pending.persistent root_family)

-- The first plain write that a section's version needs by itself, where so many plain writes were staged before its
-- frame of `count` pages. Where page writes come first, with one section that is the first of all. With several it is
-- the first of the version's own frame: what the version before needs, the graph joins, and what the other sections'
-- versions need is theirs. Where roots need the page writes it is behind the last, so that the version needs none.
abbrev pub own_first : (pages_first : Bool) → (sections staged count : ℕ) → ℕ
own_first pages_first sections staged count =
    if pages_first then (if sections == 1 then 1 else staged + 1) else staged + count + 1

-- the last plain write that a root needs by itself, where so many were staged before it, from the first on: none where
-- page writes come first, and else all
abbrev pub root_pages : (pages_first : Bool) → (staged : ℕ) → ℕ
root_pages pages_first staged = if pages_first then 0 else staged

-- the number of one of the next plain writes, or of section j's next version, would pass 2^63 - 1
abbrev pub IsWorn : Staging → (j count : ℕ) → Type 0
IsWorn s j count = (2 ^ 63 ≤ s.staged + count) ⊎ (2 ^ 63 ≤ slice_index s.latest (family_of j) + 1)

-- The next `count` plain writes were staged, in order, behind what waited. Each needs versions 1 to `root` of the root,
-- and nothing else.
pub record ArePagesStaged (old new : Staging) (count root : ℕ) : Type 0 where
  pub entries : List (Element × Named)
  pub behind : new.pending.waiting ≡ old.pending.waiting ++ entries
  pub size : length entries ≡ count
  pub each : (i : ℕ) → i < count
      → (d : Named) × (slice_get entries i ≡ Some (Plain (old.staged + 1 + i), d)) × ((x : Element) → Names d x ↔ IsVersionUpTo root_family root x)
  pub persistent : new.pending.persistent ≡ old.pending.persistent
  pub staged : new.staged ≡ old.staged + count
  pub latest : new.latest ≡ old.latest

-- The next version of section j was staged. It needs the plain writes from `first` to the last staged and versions 1 to
-- `need` of the root, joined with what the version before it needs.
pub record IsSectionStaged (old new : Staging) (j first need : ℕ) : Type 0 where
  pub needs : Named
  pub names : (x : Element) → Names needs x ↔ IsSectionNeed first old.staged need x
  pub version : IsVersionStaged old (family_of j) (slice_index old.latest (family_of j) + 1) needs new

-- a frame was staged, where page writes come first or don't and the superblock has so many sections: its pages, and
-- then a version of section j
pub record IsFrameStaged (old new : Staging) (pages_first : Bool) (sections j count root need : ℕ) : Type 0 where
  pub between : Staging
  pub pages : ArePagesStaged old between count root
  pub section : IsSectionStaged between new j (own_first pages_first sections old.staged count) need

-- Where the superblock has one section and page writes come first: what waits is what waited, and behind it a frame's
-- elements, whose needs are exact: its pages, each of which needs versions 1 to `root` of the root, and the section's
-- next version, which needs the plain writes so far and versions 1 to `need` of the root.
pub record IsFrameBehind (old new : Staging) (count root need : ℕ) : Type 0 where
  pub entries : List (Element × Named)
  pub behind : new.pending.waiting ≡ old.pending.waiting ++ entries
  pub size : length entries ≡ count + 1
  pub pages : (i : ℕ) → i < count
      → (d : Named) × (slice_get entries i ≡ Some (Plain (old.staged + 1 + i), d)) × ((x : Element) → Names d x ↔ IsVersionUpTo root_family root x)
  pub section : (d : Named) × (slice_get entries count ≡ Some (next_section old 0, d)) × ((x : Element) → Names d x ↔ IsSectionNeed 1 (old.staged + count) need x)
  pub persistent : new.pending.persistent ≡ old.pending.persistent
  pub staged : new.staged ≡ old.staged + count
  pub latest : new.latest ≡ slice_set old.latest (family_of 0) (slice_index old.latest (family_of 0) + 1)

-- Whatever write is kept for one of the `count` plain writes after number n is one to its own page, with its own bytes.
abbrev pub AreWritten : State → (n count : ℕ) → (page : ℕ → ℕ) → List (List ℕ) → Type 0
AreWritten s n count page frame =
    (i : ℕ) (w : Write) → i < count → write_of s (Plain (n + 1 + i)) ≡ Some w → w ≡ (page i, slice_index_or frame i [])

-- one of the next plain writes
abbrev pub IsNextPlain : Staging → (count : ℕ) → Element → Type 0
IsNextPlain s count (Plain n) = (s.staged < n) × (n ≤ s.staged + count)
IsNextPlain s count (Version f v) = ⊥

-- one of the next plain writes, or the next version of section j
abbrev pub IsOfFrame : Staging → (j count : ℕ) → Element → Type 0
IsOfFrame s j count (Plain n) = IsNextPlain s count (Plain n)
IsOfFrame s j count (Version f v) = (f ≡ family_of j) × (v ≡ slice_index s.latest (family_of j) + 1)

-- of no element but these is a write kept that wasn't kept before
abbrev pub AddsOnlyOf : State → State → (Element → Type 0) → Type 0
AddsOnlyOf old new These = (x : Element) (w : Write) → write_of new x ≡ Some w → (write_of old x ≡ Some w) ⊎ These x

-- Where the superblock has one section: what its waiting versions need is staged plain writes, and no later version of
-- the root than `need`.
abbrev pub AreOneSectionsNeedsWithin : Staging → (need : ℕ) → Type 0
AreOneSectionsNeedsWithin s need =
    (k v : ℕ) (d : Named) (x : Element) → WaitsAt s.pending k (Version (family_of 0) v) d → Names d x → IsSectionNeed 1 s.staged need x

-- what was reset goes with a version of the root that was staged
abbrev pub AreResetsStaged : Extents → Staging → Type 0
AreResetsStaged x s = (e : ℕ) → x.reset e ≤ slice_index s.latest root_family
