-- What a race prints at its end.
use Rattle.std.proofs.Common.{◌≡◌, ℕ, List, ◌++◌, refl}
use Rattle.std.specs.Prelude.{Option, Result}
use Rattle.std.specs.Io.KnownBytes.{Appends, Keeps}
use Rattle.cs_disk.specs.declared.disk.PageDisk.{Ghosts as PageDisk}
use Rattle.cs_disk.specs.Disk.{State as DiskState}
use Rattle.cs_node.specs.declared.rests.Unclosed.{Unclosed}
use Rattle.cs_node.specs.Starts.{Start}
use Rattle.cs_node.specs.Told.{Holdings}
use Rattle.cs_node.specs.Under.{RestView}
use Rattle.cs_race.specs.Races.{IsAnswer, Races, answer_line, answer_status, counts_lines}
use Rattle.cs_script.proofs.Appended.{appends_kept, appends_then}

-- the counts are printed, then what a close answered, and then nothing more
pub closed : {D : Type 0} (disks : PageDisk D) (start : Start) (rest : RestView D) (purses : List Holdings) (read : ℕ) (answer : Result ℕ Unclosed) (status : ℕ)
    (a b c d : Option (List ℕ)) → IsAnswer disks start rest purses answer → status ≡ answer_status answer
    → Appends a b (counts_lines rest.core.store.accepted read) → Appends b c (answer_line answer) → Keeps c d
    → (out : List ℕ) × Races disks start status out × Appends a d out
closed disks start rest purses read answer status a b c d is left h k kept =
    let counts = counts_lines rest.core.store.accepted read in
    let line = answer_line answer in
    (counts ++ line, (rest, purses, read, answer, is, left, refl), appends_kept a c d (counts ++ line) (appends_then a b c counts line h k) kept)
