use Rattle.std.proofs.Common.{take}
use Rattle.std.specs.List.{AllByRecursion}
use Rattle.cs_frame.specs.Bytes.{IsPage}
use Rattle.cs_mount.proofs.remade.are_pages.Given as goal

abbrev pub invariant-loop-k : goal.invariant-loop-k
invariant-loop-k l = AllByRecursion (λ w. IsPage w.1) (take l.k l.pages)
