-- How pages are written anew on a device, and what a crash meanwhile may leave.
use Rattle.std.specs.Prelude.{◌⊎◌, List, map}
use Rattle.cs_disk.specs.Disk.{Image, MayLeave, State, Write, flushed, latest}
use Rattle.cs_twin.specs.Pairs.{fence}
use Rattle.cs_mount.specs.Makings.{after_writes}
use Rattle.cs_mount.specs.Repaged.{repaged, repaged_state}

-- an image with these writes in place of what is on their pages
abbrev pub remade : List Write → Image → Image
remade writes image = repaged (latest writes) image

-- a disk that shows them
abbrev pub remade_state : List Write → State → State
remade_state writes s = repaged_state (latest writes) s

-- fences for the pages of these writes
abbrev pub fencing : List Write → List Write
fencing writes = map (λ w. (w.0, fence)) writes

-- The pages are fenced, and flushed; then they are written, and flushed.
abbrev pub fenced_first : List Write → State → State
fenced_first writes s = flushed (after_writes s (fencing writes))

abbrev pub remade_on : List Write → State → State
remade_on writes s = flushed (after_writes (fenced_first writes s) writes)

-- what a crash before, within or after these steps may leave: some of the fences, or all of them and some of the writes
abbrev pub LeavesRemaking : List Write → State → Image → Type 0
LeavesRemaking writes s image = MayLeave (after_writes s (fencing writes)) image ⊎ MayLeave (after_writes (fenced_first writes s) writes) image
