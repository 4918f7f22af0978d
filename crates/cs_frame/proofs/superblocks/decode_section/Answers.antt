use Rattle.std.proofs.Common.{ap, sym, ◌∙◌}
use Rattle.std.proofs.lemmas.Result.{err_from_is_err_and}
use Rattle.cs_frame.specs.declared.formats.FormatNumber.{FormatNumber}
use Rattle.cs_frame.specs.FormatNumbers.{number_in}
use Rattle.cs_frame.specs.Superblocks.{format_in, superblock_extents, superblock_fault, superblock_record}
use Rattle.cs_frame.proofs.SuperblockLaws.{number_read, one_section, section_never_memory, spelled_has_none, spells}
use Rattle.cs_frame.proofs.TestLaws.{same_fault, some_and_none}
use Rattle.cs_frame.proofs.superblocks.decode_section.Goals as goal

pub returns-in_err-check_page-clause-read : goal.returns-in_err-check_page-clause-read
returns-in_err-check_page-clause-read c = λ format version recorded extents pages sections section written same s.
    some_and_none c.in_err-check_page.ensures.fault (ap (λ (n : FormatNumber). superblock_fault n c.args.page.now) (sym same)
    ∙ spelled_has_none c.args.page.now format version recorded extents pages sections section written s)

pub returns-in_err-check_page-clause-memory : goal.returns-in_err-check_page-clause-memory
returns-in_err-check_page-clause-memory c = λ h.
    let p = err_from_is_err_and c.from_residual.result c.from_residual.ensures.1 in
    absurd (section_never_memory c.args.number c.args.page.now (sym c.in_err-check_page.ensures.fault ∙ same_fault p.1 p.2 h))

pub returns-clause-number : goal.returns-clause-number
returns-clause-number c = ap number_in c.in_ok-section_from.ensures.format ∙ number_read c.args.number c.args.page.now

pub returns-clause-spelled : goal.returns-clause-spelled
returns-clause-spelled c =
    let it = c.in_ok-section_from.ensures in
    spells c.args.page.now c.args.number _ _ _ _ _ _ _ _ c.in_ok-check_page.ensures.page (sym c.in_ok-check_page.ensures.fault) it.format it.version it.record it.extent_count it.pages it.counts it.section it.extents

pub returns-clause-read : goal.returns-clause-read
returns-clause-read c = λ format version recorded extents pages sections section written same s.
    let it = c.in_ok-section_from.ensures in
    let page = c.args.page.now in
    let one = one_section page format version recorded extents pages sections section written s in (
      it.format ∙ ap (λ (n : FormatNumber). format_in n page) (sym same) ∙ one.of_format,
      it.version ∙ one.of_version,
      it.record ∙ ap (λ (n : FormatNumber). superblock_record n page) (sym same) ∙ one.of_record,
      it.extent_count ∙ one.of_extents,
      it.pages ∙ one.of_pages,
      it.counts ∙ one.of_sections,
      it.section ∙ one.of_section,
      it.extents ∙ ap (λ (n : FormatNumber). superblock_extents n page) (sym same) ∙ one.of_written,
    )
