-- What a frame is appended for, in the words of the store's machine.
use Rattle.std.specs.Prelude.{}
use Rattle.law_machine.specs.Extents.{Purpose as Reason, ForPut, ForRun, ForMove, ForMerge}
use Rattle.cs_extent.specs.declared.purposes.Purpose.{Purpose}
use Rattle.cs_extent.specs.declared.purposes.Purpose.TheVariants.{Put, Run, Move, Merge}

-- a purpose in the words of the machine
abbrev pub reason_of : Purpose → Reason
reason_of Put = ForPut
reason_of Run = ForRun
reason_of Move = ForMove
reason_of Merge = ForMerge
