-- What clauses see of a disk in a file.
use Rattle.std.specs.Prelude.{ℕ}
use Rattle.cs_disk.specs.declared.file.FileDisk.{FileDisk}

-- how many pages it has
abbrev pub file_pages : FileDisk → ℕ
file_pages d = d.pages

-- how many of its calls failed
abbrev pub file_failures : FileDisk → ℕ
file_failures d = d.failures.count
