use Rattle.std.proofs.Common.{ℕ, subst}
use Rattle.law_machine.specs.Format.{Format}
use Rattle.cs_frame.specs.Superblocks.{SpellsSuperblock}
use Rattle.cs_frame.proofs.SuperblockLaws.{same_section}
use Rattle.cs_frame.proofs.superblocks.encode_section.Goals as goal

pub spelled_page-requires : goal.spelled_page-requires
spelled_page-requires c =
    let g = c.args.geometry in
    same_section g.format c.args.version c.args.recorded g.extents g.pages g.sections c.args.section _ _ _ _ c.args.extents.now c.format.ensures.format c.extents.ensures.extents c.pages.ensures.pages c.sections.ensures.sections (record {
      first_version = c.requires.version.0;
      last_version = c.requires.version.1;
      recorded_fits = c.requires.record;
      geometry = c.extents.ensures.geometry;
      one_of_them = c.requires.section;
      count = c.requires.count;
      pointers = c.requires.pointers;
    })

pub returns : goal.returns
returns c =
    subst (λ (n : Format). SpellsSuperblock c.spelled_page.result n c.args.version c.args.recorded c.args.geometry.extents c.args.geometry.pages c.args.geometry.sections c.args.section c.args.extents.now) c.format.ensures.format
    (subst (λ (n : ℕ). SpellsSuperblock c.spelled_page.result c.format.result c.args.version c.args.recorded n c.args.geometry.pages c.args.geometry.sections c.args.section c.args.extents.now) c.extents.ensures.extents
    (subst (λ (n : ℕ). SpellsSuperblock c.spelled_page.result c.format.result c.args.version c.args.recorded c.extents.result n c.args.geometry.sections c.args.section c.args.extents.now) c.pages.ensures.pages
    (subst (λ (n : ℕ). SpellsSuperblock c.spelled_page.result c.format.result c.args.version c.args.recorded c.extents.result c.pages.result n c.args.section c.args.extents.now) c.sections.ensures.sections
    c.spelled_page.ensures)))
