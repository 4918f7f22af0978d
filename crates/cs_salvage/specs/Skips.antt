-- What clauses see of a disk of which some pages aren't asked for.
use Rattle.std.specs.Prelude.{ℕ, List}
use Rattle.cs_salvage.specs.declared.skipping.Skipping.{Skipping}

-- the disk that all other calls reach
abbrev pub disk_skipped : {D : Type 0} → Skipping D → D
disk_skipped s = s.disk

-- the pages that aren't asked for
abbrev pub pages_skipped : {D : Type 0} → Skipping D → List ℕ
pages_skipped s = s.skipped.items

-- how many reads it refused itself
abbrev pub refused_by : {D : Type 0} → Skipping D → ℕ
refused_by s = s.refused
