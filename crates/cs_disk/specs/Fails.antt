-- What clauses see of a disk under which one call fails.
use Rattle.std.specs.Prelude.{ℕ}
use Rattle.cs_disk.specs.declared.fail_at.FailAt.{FailAt}

-- the disk that the calls reach which don't fail
abbrev pub disk_below : {D : Type 0} → FailAt D → D
disk_below s = s.disk

-- which of the reads, writes and flushes to come fails, the next being 1; 0 where none does
abbrev pub failing_call : {D : Type 0} → FailAt D → ℕ
failing_call s = s.countdown.left
