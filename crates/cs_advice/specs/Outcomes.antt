-- How commands end.
use Rattle.std.specs.Prelude.{ℕ, Option, Some, None}
use Rattle.cs_refusal.specs.declared.refusals.Refusal.{Refusal}
use Rattle.cs_refusal.specs.declared.refusals.Refusal.TheVariants as refusal
use Rattle.cs_disk.specs.declared.fault.FileFault.{FileFault}
use Rattle.cs_disk.specs.declared.fault.FileFault.TheVariants as file
use Rattle.cs_disk.specs.declared.fault.SystemFault.{SystemFault}
use Rattle.cs_disk.specs.declared.fault.SystemFault.TheVariants.{Folder, InUse, NoRoom, NotAllowed, NotThere, ReadOnly}
use Rattle.cs_disk.specs.declared.fault.SystemFault.TheVariants as fault
use Rattle.cs_advice.specs.declared.outcomes.Outcome.{Outcome}
use Rattle.cs_advice.specs.declared.outcomes.Outcome.TheVariants.{Absent, Damaged, Done, Failed, MayBeLost, NoStore, Refused, Unopened, Unread}

-- how a command ends whose file wasn't opened or made
abbrev pub outcome_of_file : FileFault → Outcome
outcome_of_file (file.System fault) = Unopened fault
outcome_of_file file.OddLength = NoStore refusal.OddLength
outcome_of_file file.NotEmpty = Refused refusal.NotEmpty

-- the exit status where the system refused a file: another process has it open, it isn't there or may not be used so,
-- or there is no store to be had
abbrev pub status_of_fault : SystemFault → ℕ
status_of_fault InUse = 6
status_of_fault NotThere = 7
status_of_fault NotAllowed = 7
status_of_fault Folder = 7
status_of_fault ReadOnly = 7
status_of_fault NoRoom = 3
status_of_fault fault.Failed = 3

-- the exit status of each
abbrev pub status_of : Outcome → ℕ
status_of Done = 0
status_of Absent = 1
status_of (Refused r) = 1
status_of (NoStore r) = 3
status_of Failed = 4
status_of (Unread r) = 5
status_of Damaged = 5
status_of (Unopened f) = status_of_fault f
status_of MayBeLost = 5

-- as which refusal it is told
abbrev pub refusal_in : Outcome → Option Refusal
refusal_in (Refused r) = Some r
refusal_in (NoStore r) = Some r
refusal_in (Unread r) = Some r
refusal_in (Unopened f) = Some refusal.DeviceFault
refusal_in Done = None
refusal_in Absent = None
refusal_in Failed = None
refusal_in Damaged = None
refusal_in MayBeLost = None
