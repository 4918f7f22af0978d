use Rattle.std.proofs.Common.{ℕ, ◌<◌}
use Rattle.law_machine.specs.Extents.{Takes}
use Rattle.cs_extent.specs.Purposes.{reason_of}
use Rattle.cs_extent.specs.Planned.{after_planned}
use Rattle.cs_extent.specs.State.{extents_of, shape}
use Rattle.cs_extent.proofs.extents.Extents.first_taking.Given as goal

abbrev pub invariant-loop-e : goal.invariant-loop-e
invariant-loop-e l = (d : ℕ) → d < l.e → Takes (shape l.self) (after_planned (extents_of l.self) l.planned) (reason_of l.purpose) l.pages d → ⊥
