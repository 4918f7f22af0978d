use Rattle.std.proofs.Common.{Option, ap, subst, sym, ◌∙◌}
use Rattle.cs_frame.specs.declared.faults.FormatFault.{FormatFault}
use Rattle.cs_frame.specs.declared.formats.FormatNumber.{FormatNumber}
use Rattle.cs_frame.specs.Faults.{HasFault}
use Rattle.cs_frame.specs.Superblocks.{superblock_fault}
use Rattle.cs_frame.proofs.FirstFormatLaws.{zero_first, zero_second, zero_spells}
use Rattle.cs_frame.proofs.page_zero.decode_superblock.Goals as goal

pub returns-then-page-eq49-clause-fault : goal.returns-then-page-eq49-clause-fault
returns-then-page-eq49-clause-fault c =
    subst (λ (found : Option FormatFault). HasFault c.decode_first_format.result found) (zero_first c.args.page.now c.if-page-eq49.true) c.decode_first_format.ensures.fault

pub returns-else-page-eq49-clause-fault : goal.returns-else-page-eq49-clause-fault
returns-else-page-eq49-clause-fault c =
    subst (λ (found : Option FormatFault). HasFault c.decode_section.result found) (ap (λ (n : FormatNumber). superblock_fault n c.args.page.now) c.section_number.ensures ∙ zero_second c.args.page.now c.if-page-eq49.false) c.decode_section.ensures.fault

pub returns-else-page-eq49-clause-read : goal.returns-else-page-eq49-clause-read
returns-else-page-eq49-clause-read c = λ format version recorded extents pages sections section written s.
    c.decode_section.ensures.read format version recorded extents pages sections section written
    (sym (c.section_number.ensures ∙ zero_spells c.args.page.now format version recorded extents pages sections section written s)) s
