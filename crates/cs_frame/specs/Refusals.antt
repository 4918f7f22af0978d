-- Faults of a format as refusals.
use Rattle.cs_frame.specs.declared.faults.FormatFault.{FormatFault}
use Rattle.cs_frame.specs.declared.faults.FormatFault.TheVariants as fault
use Rattle.cs_refusal.specs.declared.refusals.Refusal.{Refusal}
use Rattle.cs_refusal.specs.declared.refusals.Refusal.TheVariants as refusal

-- the refusal with the number of a fault
abbrev pub refusal_for : FormatFault → Refusal
refusal_for fault.BadGeometry = refusal.BadGeometry
refusal_for fault.OutOfMemory = refusal.OutOfMemory
refusal_for fault.BadMagic = refusal.BadMagic
refusal_for fault.BadDigest = refusal.BadDigest
refusal_for fault.BadLength = refusal.BadLength
refusal_for fault.BadPadding = refusal.BadPadding
refusal_for fault.BadVersion = refusal.BadVersion
refusal_for fault.OutOfOrder = refusal.OutOfOrder
refusal_for fault.Misplaced = refusal.Misplaced
