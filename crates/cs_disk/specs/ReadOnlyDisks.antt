-- What clauses see of a disk that is only read.
use Rattle.cs_disk.specs.declared.read_only.ReadOnly.{ReadOnly}

-- the disk that the reads reach
abbrev pub only_read : {D : Type 0} → ReadOnly D → D
only_read s = s.disk
