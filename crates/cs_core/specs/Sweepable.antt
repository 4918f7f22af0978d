-- Which extents a sweep may begin with.
use Rattle.std.specs.Prelude.{ℕ}
use Rattle.cs_extent.specs.State.{extents_of, shape}
use Rattle.law_machine.specs.Apart.{MayNotBegin, by_rule}
use Rattle.law_refinement.specs.cs_reclaim.Sweeps.{IsNotSweepable}
use Rattle.cs_core.specs.Stored.{Stored}

-- An extent that can't be swept. Where chunks and runs lie apart it isn't there, it is empty, runs lie on it, an extent
-- is being swept, or copies of a sweep are noted that was given up. In format 2 it isn't there, or it is open, empty or
-- being swept.
abbrev pub IsUnsweepable : Stored → ℕ → Type 0
IsUnsweepable s e = by_rule (shape s.extents).apart
    (IsNotSweepable (shape s.extents) (extents_of s.extents) e)
    (MayNotBegin (shape s.extents) (extents_of s.extents) s.copies e)
