use Rattle.std.proofs.Common.{◌≡◌, ◌∙◌, ℕ, ◌*◌, inl, refl}
use Rattle.std.specs.Prelude.{max, min}
use Rattle.std.specs.Int.{div_ceil}
use Rattle.cs_options.proofs.ExtentSteps.{hold_enough, take_enough, take_least}
use Rattle.cs_options.proofs.geometry_options.extents_for.Goals as goal

-- the extents that puts use, from the numbers that the code has
used_from : (chunks each full parts low most used : ℕ) → parts ≡ div_ceil chunks each → low ≡ min (2 * full) 8 → most ≡ max parts low → used ≡ max most 2
    → used ≡ max (max (div_ceil chunks each) (min (2 * full) 8)) 2
used_from chunks each full parts low most used parts_is low_is most_is used_is = used_is ∙ rw (most_is, parts_is, low_is) refl

pub returns-then-used-le12-clause-enough : goal.returns-then-used-le12-clause-enough
returns-then-used-le12-clause-enough c =
    take_enough (2 * c.args.chunks) c.args.each c.requires.each c.args.full c.max-used.result _
    (used_from _ _ c.args.full _ _ _ _ c.div_ceil.ensures c.min.ensures c.max.ensures c.max-used.ensures) (inl (c.if-used-le12.true, refl))

pub returns-then-used-le12-clause-holds : goal.returns-then-used-le12-clause-holds
returns-then-used-le12-clause-holds c =
    hold_enough (2 * c.args.chunks) c.args.each c.requires.each c.args.full c.max-used.result _ c.requires.full
    (used_from _ _ c.args.full _ _ _ _ c.div_ceil.ensures c.min.ensures c.max.ensures c.max-used.ensures) (inl (c.if-used-le12.true, refl))

pub returns-then-used-le12-clause-least : goal.returns-then-used-le12-clause-least
returns-then-used-le12-clause-least c extents =
    take_least (2 * c.args.chunks) c.args.each c.requires.each c.args.full c.max-used.result _ extents
    (used_from _ _ c.args.full _ _ _ _ c.div_ceil.ensures c.min.ensures c.max.ensures c.max-used.ensures) (inl (c.if-used-le12.true, refl))
