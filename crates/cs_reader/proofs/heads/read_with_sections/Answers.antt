use Rattle.std.proofs.Common.{◌⊎◌, length, refl, subst}
use Rattle.std.proofs.lemmas.Option.{slice_get_read}
use Rattle.cs_chunk.specs.Reads.{IsNoAnswer}
use Rattle.cs_disk.specs.Disk.{page, seen}
use Rattle.cs_frame.specs.Roots.{SpellsRoot, identity_in}
use Rattle.law_machine.specs.Format.{Format}
use Rattle.cs_reader.specs.Openings.{IsWhyNoRoot}
use Rattle.cs_reader.proofs.HeadReads.{head_read, no_root}
use Rattle.cs_reader.proofs.SectionReads.{format_of_first}
use Rattle.cs_reader.proofs.heads.read_with_sections.Goals as goal

pub returns-in-Err-clause-why : goal.returns-in-Err-clause-why
returns-in-Err-clause-why g c = λ h.
    let sections = c.args.sections.now in
    let first = c.index-sections-0 in
    let view = page (seen (g.D.PageDisk.state c.args.disk.now)) in
    let format = format_of_first sections first.result (slice_get_read sections (length sections) 0 first.result refl c.requires.are.some first.is) in
    no_root (g.D.PageDisk.honest c.args.disk.now) (g.D.PageDisk.page_count c.args.disk.now) view sections c.requires.are c.requires.sized c.requires.sections h c.in-Err.refusal
    (subst (λ (f : Format). IsNoAnswer c.in-Err.refusal ⊎ IsWhyNoRoot f (view 1) c.in-Err.refusal) format (c.in-Err.ensures.why h))

pub returns-clause-head : goal.returns-clause-head
returns-clause-head g c =
    let sections = c.args.sections.now in
    let first = c.index-sections-0 in
    let root = c.in-Ok.root in
    let view = page (seen (g.D.PageDisk.state c.args.disk.now)) in
    let format = format_of_first sections first.result (slice_get_read sections (length sections) 0 first.result refl c.requires.are.some first.is) in
    head_read (g.D.PageDisk.honest c.args.disk.now) (g.D.PageDisk.page_count c.args.disk.now) view sections c.requires.are c.requires.sized c.requires.sections
    (record { extents = c.in_ok-extents.extents; graph = c.in_ok-graph.graph; root = root; root_lost = c.is_root_lost-root_lost.result }) c.in_ok-extents.ensures c.in_ok-graph.ensures c.is_root_lost-root_lost.ensures
    (c.in-Ok.ensures.some.0, subst (λ (f : Format). SpellsRoot c.in-Ok.ensures.some.0 (identity_in f) root.version root.commands root.runs.items) format c.in-Ok.ensures.some.1)
    (λ h. subst (λ (f : Format). SpellsRoot (view 1) (identity_in f) root.version root.commands root.runs.items) format (c.in-Ok.ensures.read h))

pub returns-clause-cause : goal.returns-clause-cause
returns-clause-cause g c = record { later = c.read_root.ensures.cause.later; failed = λ e. absurd (cc e) }
