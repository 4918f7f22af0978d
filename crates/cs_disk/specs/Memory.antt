-- What clauses see of a disk in memory.
use Rattle.std.specs.Prelude.{ℕ, length}
use Rattle.cs_disk.specs.Disk.{State, Image}
use Rattle.cs_disk.specs.declared.memory.MemoryDisk.{MemoryDisk}
use Rattle.cs_disk.specs.Past.{state_of, past_states, LeftSince}

-- its durable image and its volatile writes
abbrev pub memory_state : MemoryDisk → State
memory_state d = state_of d.contents

-- how many writes and flushes it has had
abbrev pub memory_moment : MemoryDisk → ℕ
memory_moment d = length (past_states d.past)

-- a crash at that moment or later might have left this image
abbrev pub memory_left_since : MemoryDisk → ℕ → Image → Type 0
memory_left_since d = LeftSince (past_states d.past) (state_of d.contents)
