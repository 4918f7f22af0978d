use Rattle.std.proofs.Common.{◌∙◌, ℕ, List, [], Option, ap, arith, option_map, subst}
use Rattle.cs_frame.proofs.GeometryLaws.{pages_on_device}
use Rattle.cs_frame.specs.declared.locators.Locator.{Locator}
use Rattle.cs_frame.specs.Roots.{SpellsRoot, identity_in}
use Rattle.cs_core.proofs.Heads.{heads_failed, heads_written}
use Rattle.cs_core.proofs.core_openings.write_heads.Goals as goal

pub write_root-requires : goal.write_root-requires
write_root-requires g c =
    let s = c.args.geometry in
    let on = pages_on_device s.format s.extents s.pages s.sections c.requires.new.geometry in
    omega (arith, c.write_sections.ensures.pages, c.requires.sized, c.requires.new.geometry.fewest_sections, on)

pub returns-in-Ok-clause-written : goal.returns-in-Ok-clause-written
returns-in-Ok-clause-written g c = λ h.
    let s = c.args.geometry in
    heads_written s.format s.extents s.pages s.sections c.requires.new.geometry (g.D.PageDisk.state c.args.disk.now) (g.met.D.PageDisk.sized c.args.disk.now h ∙ c.requires.sized) c.write_root.result (g.D.PageDisk.state c.write_sections.new.disk) (g.D.PageDisk.state c.write_root.new.disk)
    c.encode_root.result (c.in-Ok.ensures.written h) (subst (λ (i : Option (List ℕ)). SpellsRoot c.encode_root.result i 1 0 []) (c.store.ensures.store ∙ ap identity_in c.format.ensures.format)
    (subst (λ (ls : List Locator). SpellsRoot c.encode_root.result (option_map (λ id. id.0) c.store.result) 1 0 ls) c.new.ensures.items c.encode_root.ensures))
    (c.write_root.ensures.written (c.write_sections.ensures.honest.0 h))

pub returns-in-Ok-clause-failed : goal.returns-in-Ok-clause-failed
returns-in-Ok-clause-failed g c = λ h.
    let s = c.args.geometry in
    heads_failed s.extents s.pages (g.D.PageDisk.state c.args.disk.now) c.write_root.result (g.D.PageDisk.state c.write_sections.new.disk) (g.D.PageDisk.state c.write_root.new.disk) c.encode_root.result (c.in-Ok.ensures.written h).head
    (c.write_root.ensures.failed (c.write_sections.ensures.honest.0 h))

pub returns-in-Ok-clause-taken : goal.returns-in-Ok-clause-taken
returns-in-Ok-clause-taken g c = λ h sound takes.
    let mid = c.in-Ok.ensures.root h sound takes in
    let spelled = subst (λ (i : Option (List ℕ)). SpellsRoot c.encode_root.result i 1 0 []) (c.store.ensures.store ∙ ap identity_in c.format.ensures.format)
    (subst (λ (ls : List Locator). SpellsRoot c.encode_root.result (option_map (λ id. id.0) c.store.result) 1 0 ls) c.new.ensures.items c.encode_root.ensures) in
    c.write_root.ensures.taken (c.write_sections.ensures.honest.0 h) mid.0 (mid.1.of_root c.encode_root.result spelled) ∙ c.write_sections.ensures.taken h sound takes
