use Rattle.std.proofs.Common.{arith}
use Rattle.cs_deps.specs.declared.elements.Element.TheVariants.{Plain, Version}
use Rattle.cs_extent.proofs.staged_frames.writes_from.Goals as goal

pub returns-then-last-first-clause-plain : goal.returns-then-last-first-clause-plain
returns-then-last-first-clause-plain c = λ n. (
  (λ h. absurd (c.none.ensures.none (Plain n) h)),
  (λ h. absurd (omega (arith, h.0, h.1, c.if-last-first.true))),
)

pub returns-then-last-first-clause-version : goal.returns-then-last-first-clause-version
returns-then-last-first-clause-version c = λ f v. c.none.ensures.none (Version f v)

pub returns-then-first-le1-clause-plain : goal.returns-then-first-le1-clause-plain
returns-then-first-le1-clause-plain c = λ n. (
  (λ h. let r = (c.through.ensures.plain n).0 h in (omega (arith, r.0, c.if-first-le1.true), r.1)),
  (λ h. (c.through.ensures.plain n).1 (omega (arith, h.0, c.requires), h.1)),
)
