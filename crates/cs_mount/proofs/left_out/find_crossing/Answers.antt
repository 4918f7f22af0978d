use Rattle.std.proofs.Common.{◌≡◌, ◌⊎◌, ◌∙◌, ◌<◌, ◌-◌, inl, ⊎_elim, ℕ, ap, sym, subst, arith}
use Rattle.cs_core.specs.cs_chunk.Reads.{IsNoAnswer, IsOfFault}
use Rattle.cs_disk.specs.Disk.{page, seen}
use Rattle.cs_frame.specs.declared.formats.FormatNumber.TheVariants as of_number
use Rattle.cs_frame.specs.Superblocks.{superblock_fault}
use Rattle.cs_reader.specs.Openings.{HasNumbers, SpellsFurther}
use Rattle.cs_mount.specs.LeftOut.{row_page}
use Rattle.cs_mount.specs.StorePairs.{section_version, store_shape}
use Rattle.cs_mount.proofs.Crossings.{crossing_found, not_another, not_faulty, place_is, place_there, row_at, row_fits, row_inside, section_is}
use Rattle.cs_mount.proofs.Sealings.{number_four}
use Rattle.cs_mount.proofs.left_out.find_crossing.Goals as goal

pub returns-in-Err-clause-why : goal.returns-in-Err-clause-why
returns-in-Err-clause-why g c = λ h some.
    let d = c.args.geometry in
    let r = c.in-Err.refusal in
    let at = row_at d c.args.extent c.section_of-section.result c.section_page.result c.requires.extent c.section_of-section.ensures.section c.section_page.ensures in
    let view = page (seen (g.D.PageDisk.state c.args.disk.now)) in
    ⊎_elim (λ (none : IsNoAnswer r). inl none)
    (λ (fault : IsOfFault (superblock_fault of_number.Four (view (row_page d c.args.extent))) r). absurd (not_faulty d ((store_shape d).section c.args.extent) (view (row_page d c.args.extent)) r c.requires.twins some fault))
    (subst (λ (p : ℕ). IsNoAnswer r ⊎ IsOfFault (superblock_fault of_number.Four (view p)) r) at (c.in-Err.ensures.why h))

pub returns-then-not-is_of-clause-why : goal.returns-then-not-is_of-clause-why
returns-then-not-is_of-clause-why g c = λ h some.
    let d = c.args.geometry in
    let at = row_at d c.args.extent c.section_of-section.result c.section_page.result c.requires.extent c.section_of-section.ensures.section c.section_page.ensures in
    let view = page (seen (g.D.PageDisk.state c.args.disk.now)) in
    let j : c.from.result ≡ (store_shape d).section c.args.extent = c.from.ensures ∙ c.section_of-section.ensures.section ∙ sym (section_is d c.args.extent c.requires.extent) in
    absurd (not_another d c.from.result (view (row_page d c.args.extent)) c.in-Ok.superblock c.requires.twins c.in-Ok.ensures.four
    (subst (λ (k : ℕ). 0 < section_version d k (view (row_page d c.args.extent))) (sym j) some)
    (subst (λ (p : ℕ). SpellsFurther (view p) c.in-Ok.superblock) at (c.in-Ok.ensures.read h)) c.if-not-is_of.ensures)

pub overflow_sub-place : goal.overflow_sub-place
overflow_sub-place g c =
    let d = c.args.geometry in
    let inside = row_inside d c.args.extent c.section_of-section.result c.requires.extent c.requires.geometry c.section_of-section.ensures.section in
    omega (arith, inside.0, c.from-2.ensures, c.section_start.ensures)

pub left_out-requires-clause-place : goal.left_out-requires-clause-place
left_out-requires-clause-place g c =
    let d = c.args.geometry in
    let is = c.section_of-section.ensures.section in
    let there = place_there d c.args.extent c.section_of-section.result c.requires.extent c.requires.geometry is c.in-Ok.superblock c.section_start.result c.section_start.ensures
    (subst (λ (k : ℕ). HasNumbers d.format d.extents d.pages d.sections k c.in-Ok.superblock) c.from.ensures c.if-not-is_of.ensures) c.in-Ok.ensures.some in
    omega (arith, there, c.from-2.ensures)

pub encode_superblock-requires : goal.encode_superblock-requires
encode_superblock-requires g c =
    row_fits c.in-Ok.superblock c.left_out.result (c.from-2.result - c.section_start.result) c.args.lives c.left_out.ensures (omega (arith, c.if-superblock-ge-LAST_VERSION.false)) c.in-Ok.ensures.some

pub returns-clause-crossing : goal.returns-clause-crossing
returns-clause-crossing g c = λ h.
    let d = c.args.geometry in
    let is = c.section_of-section.ensures.section in
    let at = row_at d c.args.extent c.section_of-section.result c.section_page.result c.requires.extent is c.section_page.ensures in
    crossing_found d c.args.extent c.args.lives (seen (g.D.PageDisk.state c.args.disk.now)) c.in-Ok.superblock c.left_out.result c.section_page.result (c.from-2.result - c.section_start.result) c.encode_superblock.result
    (number_four c.in-Ok.superblock.format c.in-Ok.ensures.four) at
    (ap (λ (k : ℕ). k - c.section_start.result) c.from-2.ensures ∙ place_is d c.args.extent c.section_of-section.result c.requires.extent c.requires.geometry is c.section_start.result c.section_start.ensures)
    (c.in-Ok.ensures.read h) c.left_out.ensures (omega (arith, c.if-superblock-ge-LAST_VERSION.false)) c.encode_superblock.ensures.spelled
