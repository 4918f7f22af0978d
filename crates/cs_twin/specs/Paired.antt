-- What clauses see of a disk in pairs.
use Rattle.std.specs.Prelude.{ℕ, List}
use Rattle.cs_disk.specs.declared.disk.PageDisk.{Ghosts as PageDisk}
use Rattle.cs_disk.specs.Disk.{Image, State}
use Rattle.cs_twin.specs.declared.paired.Paired.{Paired}
use Rattle.cs_twin.specs.declared.pairs.Pair.{Pair}
use Rattle.cs_twin.specs.declared.pairs.PageRules.{Ghosts as PageRules}
use Rattle.cs_twin.specs.Noted.{IsUndoubted, failed, refused_of}
use Rattle.cs_twin.specs.Pairs.{Versions, left_shown, shown_state}

-- the disk below
abbrev pub disk_below : {D R : Type 0} {disks : PageDisk D} {rules : PageRules R} → Paired D R disks rules → D
disk_below p = p.disk

-- what tells whether its pages are whole
abbrev pub rules_of : {D R : Type 0} {disks : PageDisk D} {rules : PageRules R} → Paired D R disks rules → R
rules_of p = p.rules

-- which version bytes spell, by those
abbrev pub versions_of : {D R : Type 0} {disks : PageDisk D} {rules : PageRules R} → Paired D R disks rules → Versions
versions_of {rules = rules} p = rules.version p.rules

-- its pairs
abbrev pub pairs_of : {D R : Type 0} {disks : PageDisk D} {rules : PageRules R} → Paired D R disks rules → List Pair
pairs_of p = p.pairs.items

-- what it shows
abbrev pub state_shown : {D R : Type 0} {disks : PageDisk D} {rules : PageRules R} → Paired D R disks rules → State
state_shown {disks = disks} {rules = rules} p = shown_state (rules.version p.rules) p.pairs.items (disks.state p.disk)

-- how many of its calls failed
abbrev pub failures_of : {D R : Type 0} {disks : PageDisk D} {rules : PageRules R} → Paired D R disks rules → ℕ
failures_of {disks = disks} p = failed (disks.failure_count p.disk) p.notes

-- how many of these it refused itself
abbrev pub refusals_of : {D R : Type 0} {disks : PageDisk D} {rules : PageRules R} → Paired D R disks rules → ℕ
refusals_of p = refused_of p.notes

-- it refuses no read and no flush itself
abbrev pub IsSound : {D R : Type 0} {disks : PageDisk D} {rules : PageRules R} → Paired D R disks rules → Type 0
IsSound p = IsUndoubted p.notes

-- its moment, and the images that a crash at some moment from one on might have left, as they show
abbrev pub moment_of : {D R : Type 0} {disks : PageDisk D} {rules : PageRules R} → Paired D R disks rules → ℕ
moment_of {disks = disks} p = disks.moment p.disk

abbrev pub left_as_shown : {D R : Type 0} {disks : PageDisk D} {rules : PageRules R} → Paired D R disks rules → ℕ → Image → Type 0
left_as_shown {disks = disks} {rules = rules} p = left_shown (rules.version p.rules) p.pairs.items (disks.left_since p.disk)
