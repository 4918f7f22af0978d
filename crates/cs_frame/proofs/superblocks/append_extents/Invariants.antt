use Rattle.std.proofs.Common.{◌≡◌, ◌++◌, take}
use Rattle.cs_frame.specs.Pointers.{FitsGeneration, spelled_extents}
use Rattle.std.specs.List.{AllByRecursion}
use Rattle.cs_frame.specs.Buffers.{text_of}
use Rattle.cs_frame.proofs.superblocks.append_extents.Given as goal

abbrev pub invariant-loop-extent : goal.invariant-loop-extent
invariant-loop-extent l =
    (text_of l.page ≡ text_of l.initial.page ++ spelled_extents (take l.extent-index l.extents)) × AllByRecursion FitsGeneration (take l.extent-index l.extents)
