use Rattle.std.proofs.Common.{◌∙◌, ◌⊎◌, ℕ, List, ap, subst, sym}
use Rattle.cs_chunk.specs.Reads.{IsNoAnswer}
use Rattle.cs_disk.specs.Disk.{page, seen}
use Rattle.cs_frame.specs.declared.formats.FormatNumber.{FormatNumber}
use Rattle.cs_frame.specs.FormatNumbers.{number_in}
use Rattle.cs_frame.specs.Superblocks.{superblock_fault}
use Rattle.cs_refusal.specs.declared.refusals.Refusal.TheVariants.{NotAStore}
use Rattle.cs_reader.specs.Openings.{IsWhyNoSection}
use Rattle.cs_reader.proofs.Loading.{fault_or_none, memory_or_fault}
use Rattle.cs_reader.proofs.Ranges.{superblock_refused}
use Rattle.cs_reader.proofs.SectionReads.{damaged_further, number_is, other_further}
use Rattle.cs_reader.proofs.heads.read_section.Goals as goal

pub returns-in-Err-decode_section-clause-why : goal.returns-in-Err-decode_section-clause-why
returns-in-Err-decode_section-clause-why g c = λ h.
    let n = c.args.numbers.now in
    let fault = c.in-Err-decode_section.fault in
    let r = c.refusal_of_fault.result in
    subst (λ (b : List ℕ). IsNoAnswer r ⊎ IsWhyNoSection n.format n.extents n.pages n.sections c.args.section b r)
    (c.in-Ok.ensures.bytes h ∙ ap (page (seen (g.D.PageDisk.state c.args.disk.now))) (number_is c.from.result c.from-2.result c.from-3.result n.extents n.pages c.args.section c.from.ensures c.from-2.ensures c.from-3.ensures))
    (damaged_further n.format n.extents n.pages n.sections c.args.section c.read.new.buffer r
    (fault_or_none fault (superblock_fault (number_in n.format) c.read.new.buffer) r c.refusal_of_fault.ensures.same
    (λ ne. ap (λ (k : FormatNumber). superblock_fault k c.read.new.buffer) (sym c.number.ensures.number) ∙ (c.decode_section.ensures.fault fault ne).0 c.in-Err-decode_section.is)))

pub returns-in-Err-decode_section-clause-number : goal.returns-in-Err-decode_section-clause-number
returns-in-Err-decode_section-clause-number g c =
    let fault = c.in-Err-decode_section.fault in
    superblock_refused c.number.result c.read.new.buffer c.refusal_of_fault.result
    (memory_or_fault fault (superblock_fault c.number.result c.read.new.buffer) c.refusal_of_fault.result c.refusal_of_fault.ensures.same (λ ne. (c.decode_section.ensures.fault fault ne).0 c.in-Err-decode_section.is))

pub returns-then-not-has_numbers-clause-why : goal.returns-then-not-has_numbers-clause-why
returns-then-not-has_numbers-clause-why g c = λ h.
    let n = c.args.numbers.now in
    let it = c.in-Ok-decode_section in
    subst (λ (b : List ℕ). IsNoAnswer NotAStore ⊎ IsWhyNoSection n.format n.extents n.pages n.sections c.args.section b NotAStore)
    (c.in-Ok.ensures.bytes h ∙ ap (page (seen (g.D.PageDisk.state c.args.disk.now))) (number_is c.from.result c.from-2.result c.from-3.result n.extents n.pages c.args.section c.from.ensures c.from-2.ensures c.from-3.ensures))
    (other_further n.format n.extents n.pages n.sections c.args.section c.read.new.buffer it.superblock (it.ensures.number ∙ c.number.ensures.number) c.if-not-has_numbers.ensures it.ensures.spelled)
