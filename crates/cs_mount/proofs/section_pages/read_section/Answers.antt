use Rattle.std.proofs.Common.{◌⊎◌, List, ℕ, subst}
use Rattle.cs_core.specs.cs_chunk.Reads.{IsNoAnswer, IsOfFault}
use Rattle.cs_frame.specs.declared.formats.FormatNumber.TheVariants.{Four}
use Rattle.cs_frame.specs.Superblocks.{superblock_fault}
use Rattle.cs_reader.proofs.Loading.{fault_or_none, memory_or_fault}
use Rattle.cs_reader.proofs.Ranges.{superblock_refused}
use Rattle.cs_mount.proofs.section_pages.read_section.Goals as goal

pub returns-in-Err-decode_section-clause-why : goal.returns-in-Err-decode_section-clause-why
returns-in-Err-decode_section-clause-why g c = λ h.
    let fault = c.in-Err-decode_section.fault in
    let r = c.refusal_of_fault.result in
    subst (λ (b : List ℕ). IsNoAnswer r ⊎ IsOfFault (superblock_fault Four b) r) (c.in-Ok.ensures.bytes h)
    (fault_or_none fault (superblock_fault Four c.read.new.buffer) r c.refusal_of_fault.ensures.same (λ ne. (c.decode_section.ensures.fault fault ne).0 c.in-Err-decode_section.is))

pub returns-in-Err-decode_section-clause-number : goal.returns-in-Err-decode_section-clause-number
returns-in-Err-decode_section-clause-number g c =
    let fault = c.in-Err-decode_section.fault in
    superblock_refused Four c.read.new.buffer c.refusal_of_fault.result
    (memory_or_fault fault (superblock_fault Four c.read.new.buffer) c.refusal_of_fault.result c.refusal_of_fault.ensures.same (λ ne. (c.decode_section.ensures.fault fault ne).0 c.in-Err-decode_section.is))
