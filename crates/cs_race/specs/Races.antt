-- What a race prints at its end, and why none is run.
use Rattle.std.specs.Prelude.{◌≡◌, ◌⊎◌, ◌++◌, ℕ, List, Result, Ok, Err, codes, decimal}
use Rattle.cs_refusal.specs.declared.refusals.Refusal.{Refusal}
use Rattle.cs_refusal.specs.declared.refusals.Refusal.TheVariants.{OutOfMemory, WornOut}
use Rattle.cs_disk.specs.declared.disk.PageDisk.{Ghosts as PageDisk}
use Rattle.cs_disk.specs.Disk.{State as DiskState}
use Rattle.cs_node.specs.declared.rests.Unclosed.{Unclosed}
use Rattle.cs_node.specs.declared.rests.Unclosed.TheVariants.{Missing}
use Rattle.cs_node.specs.declared.rests.Unclosed.TheVariants as why
use Rattle.cs_node.specs.Accounts.{Accounted}
use Rattle.cs_node.specs.Closes.{Fails}
use Rattle.cs_node.specs.Behind.{IsBehind}
use Rattle.cs_node.specs.Starts.{Start}
use Rattle.cs_node.specs.Told.{Holdings}
use Rattle.cs_node.specs.Under.{RestView}
use Rattle.cs_script.specs.Outputs.{acknowledged_line, line_of, refusal_line}

-- how many commands were accepted, and how many shards were read back
abbrev pub counts_lines : ℕ → ℕ → List ℕ
counts_lines accepted read = line_of (codes "accepted " ++ decimal accepted) ++ line_of (codes "read back " ++ decimal read)

-- so many numbers have neither ticket nor ack
abbrev pub missing_line : ℕ → List ℕ
missing_line n = line_of (codes "refused 50 Missing " ++ decimal n)

-- how many commands are acknowledged, or why the node wasn't closed
abbrev pub answer_line : Result ℕ Unclosed → List ℕ
answer_line (Ok n) = acknowledged_line n
answer_line (Err (Missing n)) = missing_line n
answer_line (Err why.OutOfMemory) = refusal_line OutOfMemory

-- 0 where the node was closed
abbrev pub answer_status : Result ℕ Unclosed → ℕ
answer_status (Ok n) = 0
answer_status (Err why) = 1

-- why a race isn't run: there is no memory, or the node has no pilot or no purse left
abbrev pub IsNoRace : Refusal → Type 0
IsNoRace r = (r ≡ OutOfMemory) ⊎ (r ≡ WornOut)

-- a close over these purses answers so: they account for the core, of whose commands so many are persistent, or they
-- don't
abbrev pub CloseAnswers : {D : Type 0} → RestView D → List Holdings → Result ℕ Unclosed → Type 0
CloseAnswers rest purses (Ok n) = Accounted rest.core rest.given rest.handed purses × (n ≡ rest.core.store.frontier)
CloseAnswers rest purses (Err why) = Fails rest purses why

-- a core with this start, whose history is a run of the store's machine where the disk is honest, was closed so
pub record IsAnswer {D : Type 0} (disks : PageDisk D) (start : Start) (rest : RestView D) (purses : List Holdings) (answer : Result ℕ Unclosed) : Type 0 where
  pub behind : IsBehind disks start rest.core
  pub closed : CloseAnswers rest purses answer

-- a node on a core with this start was closed over some purses, and what that answered was printed, below the counts
abbrev pub Races : {D : Type 0} → (disks : PageDisk D) → Start → ℕ → List ℕ → Type 0
Races {D} disks start status out = (rest : RestView D) × (purses : List Holdings) × (read : ℕ) × (answer : Result ℕ Unclosed)
    × IsAnswer disks start rest purses answer × (status ≡ answer_status answer)
    × (out ≡ counts_lines rest.core.store.accepted read ++ answer_line answer)
