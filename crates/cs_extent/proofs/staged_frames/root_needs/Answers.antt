use Rattle.std.proofs.Common.{◌≤◌, ℕ, arith, subst}
use Rattle.std.specs.Prelude.{◌↔◌}
use Rattle.cs_deps.specs.declared.elements.Element.TheVariants.{Plain}
use Rattle.cs_deps.specs.Named.{Names}
use Rattle.cs_extent.specs.Frames.{root_pages}
use Rattle.cs_extent.proofs.Staged.{all_below, below_step, none_below}
use Rattle.cs_extent.proofs.staged_frames.root_needs.Goals as goal

pub loop-family-init : goal.loop-family-init
loop-family-init c = record {
  names = none_below c.through-needs.result (root_pages c.args.pages_first c.args.graph.now.staging.staged) c.args.graph.now.staging.latest
      (subst (λ (last : ℕ). (n : ℕ) → Names c.through-needs.result (Plain n) ↔ ((1 ≤ n) × (n ≤ last))) c.last_needed.ensures c.through-needs.ensures.plain)
      c.through-needs.ensures.version;
  small = c.through-needs.ensures.small;
}

pub with_versions-needs-requires-clause-family : goal.with_versions-needs-requires-clause-family
with_versions-needs-requires-clause-family c = omega (arith, c.requires, c.loop-family-test.true, c.families-family-end.ensures.count)

pub loop-family-preserved : goal.loop-family-preserved
loop-family-preserved c = record {
  names = below_step c.loop-family.needs c.with_versions-needs.result (root_pages c.args.pages_first c.args.graph.now.staging.staged) c.args.graph.now.staging.latest c.loop-family.family c.section_version.result c.section_version.ensures.root c.section_version.ensures.section c.loop-family.invariant.names c.with_versions-needs.ensures.names;
  small = c.with_versions-needs.ensures.small;
}

pub returns-clause-names : goal.returns-clause-names
returns-clause-names c = all_below c.loop-family.needs (root_pages c.args.pages_first c.args.graph.now.staging.staged) c.args.graph.now.staging.latest c.loop-family.family (omega (arith, c.loop-family-test.false, c.families-family-end.ensures.count)) c.loop-family.invariant.names
