use Rattle.std.proofs.Common.{◌≡◌, ◌-◌, vec_len}
use Rattle.cs_frame.specs.declared.locators.Locator.{Locator as Place}
use Rattle.cs_core.specs.Lengths.{noted_at}
use Rattle.cs_core.proofs.lengths.grow.Given as goal

abbrev pub invariant-loop-alloc : goal.invariant-loop-alloc
invariant-loop-alloc l = (p : Place) → noted_at l.rows.items p ≡ noted_at l.fn.rows.items p

abbrev pub decreases-loop-alloc : goal.decreases-loop-alloc
decreases-loop-alloc l = l.count - vec_len l.rows
