use Rattle.std.proofs.Common.{◌≡◌, ◌∙◌, ◌⊎◌, ◌+◌, Bool, List, Option, ap, arith, subst, Err, ⊎_elim, ℕ}
use Rattle.std.specs.Prelude.{◌↔◌}
use Rattle.cs_refusal.specs.declared.refusals.Refusal.{Refusal}
use Rattle.cs_refusal.specs.declared.refusals.Refusal.TheVariants.{UnknownNeed, OwnFamily, WornOut, OutOfMemory}
use Rattle.cs_deps.specs.declared.elements.Element.{Element}
use Rattle.cs_deps.specs.Named.{Names}
use Rattle.cs_extent.specs.Frames.{IsRootNeed, root_pages}
use Rattle.cs_frame.proofs.RootLaws.{root_of_format}
use Rattle.cs_frame.specs.Roots.{SpellsRoot, identity_in}
use Rattle.cs_index.proofs.Rooted.{below_worn, not_own_family, root_families, root_number, root_rises, within_needs}
use Rattle.cs_index.proofs.stages.push_root.Goals as goal

pub unreachable-requires : goal.unreachable-requires
unreachable-requires c =
    let e = c.in-Err.ensures in
    let r : Refusal = c.in-Err.field-0 in
    ⊎_elim
    (λ (is : r ≡ UnknownNeed). e.unknown.0 (ap (λ (f : Refusal). Err f) is) (within_needs c.root_needs-needs.result c.pages_first.result c.args.graph.now.staging.staged c.args.graph.now.staging.latest c.root_needs-needs.ensures.names))
    (λ (o : (r ≡ OwnFamily) ⊎ ((r ≡ WornOut) ⊎ (r ≡ OutOfMemory))). ⊎_elim
    (λ (is : r ≡ OwnFamily). not_own_family c.root_needs-needs.result _ _ c.root_needs-needs.ensures.names ((e.own.0 (ap (λ (f : Refusal). Err f) is)).1))
    (λ (p : (r ≡ WornOut) ⊎ (r ≡ OutOfMemory)). ⊎_elim
    (λ (is : r ≡ WornOut). c.requires.number ((e.worn.0 (ap (λ (f : Refusal). Err f) is)).2))
    (λ (is : r ≡ OutOfMemory). e.memory c.requires.room (ap (λ (f : Refusal). Err f) is))
    p)
    o)
    e.refusals

-- the root's identity is that of the format
pub encode_root-page-requires : goal.encode_root-page-requires
encode_root-page-requires c =
    root_of_format c.args.format _ c.store.ensures.store (omega arith)
    (below_worn c.args.graph.now.staging c.last_version-version.result c.last_version-version.ensures c.requires.number)
    c.requires.commands c.requires.places c.requires.marks

pub returns-clause-staged : goal.returns-clause-staged
returns-clause-staged c =
    let e = c.in-Ok.ensures in
    let number : c.last_version-version.result + 1 ≡ c.in-Ok.staged = ap (λ (n : ℕ). n + 1) c.last_version-version.ensures ∙ root_number c.args.graph.now.staging c.stage_version.new.self.staging c.in-Ok.staged c.root_needs-needs.result e.staged in
    record {
      needs = c.root_needs-needs.result;
      names = subst (λ (first : Bool). (x : Element) → Names c.root_needs-needs.result x ↔ IsRootNeed (root_pages first c.args.graph.now.staging.staged) c.args.graph.now.staging.latest x) c.pages_first.ensures c.root_needs-needs.ensures.names;
      version = e.staged;
      page = (
        c.encode_root-page.result,
        e.write,
        subst (λ (n : ℕ). SpellsRoot c.encode_root-page.result (identity_in c.args.format) n c.args.commands c.args.places.items) number
            (subst (λ (store : Option (List ℕ)). SpellsRoot c.encode_root-page.result store (c.last_version-version.result + 1) c.args.commands c.args.places.items) c.store.ensures.store c.encode_root-page.ensures),
      );
      others = e.others;
      round = e.round;
    }

pub returns-clause-ready : goal.returns-clause-ready
returns-clause-ready c = λ x was.
    let staged = c.in-Ok.ensures.staged in
    let rises = root_rises c.args.graph.now.staging c.stage_version.new.self.staging c.in-Ok.staged c.root_needs-needs.result staged c.requires.families in
    record {
      families = root_families c.args.graph.now.staging c.stage_version.new.self.staging c.in-Ok.staged c.root_needs-needs.result staged ∙ was.families;
      resets = λ e. omega (arith, was.resets e, rises);
    }
