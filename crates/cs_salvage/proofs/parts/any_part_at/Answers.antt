use Rattle.std.proofs.Common.{◌≡◌, ◌∙◌, ap, arith, sym, true}
use Rattle.cs_disk.specs.Disk.{seen}
use Rattle.law_machine.specs.Geometry.{heads_in}
use Rattle.cs_salvage.specs.declared.parts.FoundPart.{FoundPart}
use Rattle.cs_salvage.proofs.Meaning.{spelled_where}
use Rattle.cs_salvage.proofs.Standing.{part_there}
use Rattle.cs_salvage.proofs.parts.any_part_at.Goals as goal

pub returns-in_ok-part_in-in-Ok-Some-clause-part : goal.returns-in_ok-part_in-in-Ok-Some-clause-part
returns-in_ok-part_in-in-Ok-Some-clause-part g c = λ h.
    let heads : heads_in c.args.geometry.format ≡ true = ap heads_in (sym c.format.ensures.format) ∙ sym c.has_heads.ensures ∙ c.if-not-has_heads.false in
    let front = rw c.in-Ok-Some.field-0-is at (c.in-Ok-Some.ensures.pages h) in
    let found = rw c.deref.ensures.value at c.in_ok-part_in-in-Ok-Some.ensures.part in
    part_there c.args.geometry (seen (g.D.PageDisk.state c.args.disk.now)) c.format.ensures.geometry c.args.extent c.args.page (λ (it : FoundPart). it.part) (λ (it : FoundPart). it.payload.items)
    c.in_ok-part_in-in-Ok-Some.field-0 c.in-Ok-Some.pages.items heads (omega (arith, c.if-extent-extents.false, c.extents.ensures.extents)) (omega (arith, c.if-page-pages.false, c.pages.ensures.pages)) front found c.in_ok-part_in-in-Ok-Some.ensures.place

pub returns-in_ok-part_in-in-Ok-Some-clause-spelled : goal.returns-in_ok-part_in-in-Ok-Some-clause-spelled
returns-in_ok-part_in-in-Ok-Some-clause-spelled g c =
    spelled_where _ (λ (it : FoundPart). it.part) (λ (it : FoundPart). it.payload.items) c.deref.result.now c.in_ok-part_in-in-Ok-Some.field-0 c.in_ok-part_in-in-Ok-Some.ensures.part
