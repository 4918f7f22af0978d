use Rattle.std.proofs.Common.{◌∙◌, ◌≡◌, IfSome, Option, ap, inl, subst, sym}
use Rattle.cs_frame.specs.Geometries.{Dimensions}
use Rattle.cs_mount.specs.StorePairs.{pages_of}
use Rattle.cs_disk.proofs.OnlyRead.{reads_on}
use Rattle.cs_disk.specs.Disk.{seen}
use Rattle.law_machine.specs.Geometry.{twins_in}
use Rattle.std.proofs.lemmas.Option.{same_Some}
use Rattle.cs_mount.proofs.Crossings.{no_answer}
use Rattle.cs_mount.proofs.MadeFound.{inside_found, twins_found}
use Rattle.cs_mount.proofs.MadeWhy.{why_found}
use Rattle.cs_mount.proofs.MadeListed.{if_read}
use Rattle.cs_mount.proofs.lost_sections.made_sections.Goals as goal

pub returns-then-has_twins-clause-inside : goal.returns-then-has_twins-clause-inside
returns-then-has_twins-clause-inside g c =
    if_read c.sections_of.result _ _ (λ pages is. inside_found c.in-Ok-Some.geometry (g.D.PageDisk.page_count c.args.disk.now) pages.items (subst (λ (o : Option Dimensions). IfSome o (λ d. pages_of d ≡ g.D.PageDisk.page_count c.args.disk.now)) c.in-Ok-Some.field-0-is c.in-Ok-Some.ensures.pages) is) c.sections_of.ensures.inside

pub returns-then-has_twins-clause-disk : goal.returns-then-has_twins-clause-disk
returns-then-has_twins-clause-disk g c = reads_on g.D.PageDisk c.args.disk.now c.find_geometry.new.disk c.sections_of.new.disk c.find_geometry.ensures.disk c.sections_of.ensures.disk

pub returns-else-has_twins-clause-made : goal.returns-else-has_twins-clause-made
returns-else-has_twins-clause-made g c = λ h.
    absurd (twins_found (g.D.PageDisk.page_count c.args.disk.now) (seen (g.D.PageDisk.state c.args.disk.now)) c.in-Ok-Some.geometry (sym c.in-Ok-Some.field-0-is ∙ c.in-Ok-Some.ensures.found h) (ap twins_in (sym c.format.ensures.format) ∙ sym c.has_twins.ensures ∙ c.if-has_twins.false))

pub returns-then-has_twins-clause-why : goal.returns-then-has_twins-clause-why
returns-then-has_twins-clause-why g c = λ h d is view n m.
    let D = g.D.PageDisk in
    why_found c.in-Ok-Some.geometry d (same_Some c.in-Ok-Some.geometry d (sym c.in-Ok-Some.field-0-is ∙ c.in-Ok-Some.ensures.found h ∙ is))
    (seen (D.state c.find_geometry.new.disk)) (seen (D.state c.args.disk.now)) (ap seen (c.find_geometry.ensures.disk.same h)) c.sections_of.result view n m
    (c.sections_of.ensures.why (c.find_geometry.ensures.disk.honesty.0 h) view n m)

pub returns-in-Err-clause-why : goal.returns-in-Err-clause-why
returns-in-Err-clause-why g c = λ h d is view n m found has. inl (no_answer c.in-Err.fault c.refusal_of_disk.result c.refusal_of_disk.ensures)
