-- What a core has left to write, and what its disk in pairs takes.
use Rattle.std.specs.Prelude.{◌≡◌, ◌≤◌, ℕ, true, List, Some, map, slice_get}
use Rattle.std.specs.List.{AllByRecursion}
use Rattle.cs_core.specs.Stored.{Stored, members_of}
use Rattle.cs_deps.specs.declared.elements.Element.{Element as Name}
use Rattle.cs_deps.specs.State.{write_of}
use Rattle.cs_disk.specs.declared.disk.PageDisk.{Ghosts as PageDisk}
use Rattle.cs_disk.specs.Disk.{seen}
use Rattle.cs_twin.specs.declared.findings.Finding.{Finding}
use Rattle.cs_twin.specs.declared.paired.Paired.{Paired}
use Rattle.cs_twin.specs.declared.pairs.PageRules.{Ghosts as PageRules}
use Rattle.cs_twin.specs.Fences.{AreFenced}
use Rattle.cs_twin.specs.Findings.{finding_in, is_known}
use Rattle.cs_twin.specs.Kept.{TakesWrite}
use Rattle.cs_twin.specs.Paired.{disk_below, pairs_of, rules_of, versions_of}

-- a disk in pairs doesn't refuse itself to write these bytes to this page: `takes` of it as a disk
abbrev pub takes_of : {D R : Type 0} {disks : PageDisk D} {rules : PageRules R} → Paired D R disks rules → (page : ℕ) → (bytes : List ℕ) → Type 0
takes_of {disks = disks} {rules = rules} p = TakesWrite (rules.version (rules_of p)) (rules.allowed (rules_of p)) (pairs_of p) (seen (disks.state (disk_below p)))

-- each half of each of its pairs is whole or a fence in what is durable
abbrev pub HasFencedHalves : {D R : Type 0} {disks : PageDisk D} {rules : PageRules R} → Paired D R disks rules → Type 0
HasFencedHalves {disks = disks} p = AreFenced (versions_of p) (pairs_of p) (disks.state (disk_below p)).durable

-- what the halves of its pairs hold in what is durable
abbrev pub findings_of : {D R : Type 0} {disks : PageDisk D} {rules : PageRules R} → Paired D R disks rules → List Finding
findings_of {disks = disks} p = map (finding_in (versions_of p) (disks.state (disk_below p)).durable) (pairs_of p)

-- none of these halves is damaged
abbrev pub AreUndamaged : List Finding → Type 0
AreUndamaged found = AllByRecursion (λ it. is_known it ≡ true) found

-- A member of the round that is out isn't written yet. Its page is this one, and its bytes are these.
pub record IsLeftToWrite (store : Stored) (page : ℕ) (bytes : List ℕ) : Type 0 where
  pub place : ℕ
  pub member : Name
  pub unwritten : store.issued ≤ place
  pub is_there : slice_get (members_of store.out) place ≡ Some member
  pub kept : write_of store.graph member ≡ Some (page, bytes)
