use Rattle.std.proofs.Common.{◌≡◌, ◌⊎◌, ◌+◌, ◌^◌, ◌≤◌, get_or, ap, subst, Err, arith, ⊎_elim, ℕ}
use Rattle.cs_deps.specs.declared.elements.Element.{Element}
use Rattle.cs_refusal.specs.declared.refusals.Refusal.{Refusal}
use Rattle.cs_refusal.specs.declared.refusals.Refusal.TheVariants.{UnknownNeed, OwnFamily, WornOut, OutOfMemory}
use Rattle.cs_deps.specs.Named.{Names, NamesFamily}
use Rattle.cs_deps.specs.Staging.{IsVersionStaged}
use Rattle.cs_extent.specs.Frames.{IsSectionNeed}
use Rattle.cs_extent.proofs.Staged.{section_within, section_not_own, section_staged}
use Rattle.cs_extent.proofs.staged_frames.stage_section.Goals as goal

pub unreachable-requires : goal.unreachable-requires
unreachable-requires c =
    let e = c.in-Err.ensures in
    let r : Refusal = c.in-Err.field-0 in
    let names = subst (λ (n : ℕ). (x : Element) → (Names c.section_needs-needs.result x → IsSectionNeed c.args.first n c.args.place.need x) × (IsSectionNeed c.args.first n c.args.place.need x → Names c.section_needs-needs.result x)) c.last_plain.ensures c.section_needs-needs.ensures in
    ⊎_elim
    (λ (is : r ≡ UnknownNeed). e.unknown.0 (ap (λ (f : Refusal). Err f) is) (section_within c.section_needs-needs.result c.args.first c.args.graph.now.staging.staged c.args.place.need c.args.graph.now.staging.latest c.requires.first names c.requires.root))
    (λ (o : (r ≡ OwnFamily) ⊎ ((r ≡ WornOut) ⊎ (r ≡ OutOfMemory))). ⊎_elim
    (λ (is : r ≡ OwnFamily). section_not_own c.section_needs-needs.result c.args.place.section c.args.first c.args.graph.now.staging.staged c.args.place.need names (subst (λ (f : ℕ). NamesFamily c.section_needs-needs.result f) c.section_family.ensures ((e.own.0 (ap (λ (f : Refusal). Err f) is)).1)))
    (λ (p : (r ≡ WornOut) ⊎ (r ≡ OutOfMemory)). ⊎_elim
    (λ (is : r ≡ WornOut). let past = subst (λ (f : ℕ). 2 ^ 63 ≤ get_or c.args.graph.now.staging.latest f 0 + 1) c.section_family.ensures (e.worn.0 (ap (λ (f : Refusal). Err f) is)).2 in omega (arith, past, c.requires.number))
    (λ (is : r ≡ OutOfMemory). e.memory c.requires.room (ap (λ (f : Refusal). Err f) is))
    p)
    o)
    e.refusals

pub returns-clause-staged : goal.returns-clause-staged
returns-clause-staged c =
    let names = subst (λ (n : ℕ). (x : Element) → (Names c.section_needs-needs.result x → IsSectionNeed c.args.first n c.args.place.need x) × (IsSectionNeed c.args.first n c.args.place.need x → Names c.section_needs-needs.result x)) c.last_plain.ensures c.section_needs-needs.ensures in
    section_staged c.args.graph.now.staging c.stage_version.new.self.staging c.args.place.section c.args.first c.args.place.need c.section_needs-needs.result c.in-Ok.field-0 names (subst (λ (f : ℕ). IsVersionStaged c.args.graph.now.staging f c.in-Ok.field-0 c.section_needs-needs.result c.stage_version.new.self.staging) c.section_family.ensures c.in-Ok.ensures.staged)
