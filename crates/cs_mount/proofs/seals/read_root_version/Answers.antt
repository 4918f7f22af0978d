use Rattle.std.proofs.Common.{◌⊎◌, List, ℕ, subst}
use Rattle.cs_core.specs.cs_chunk.Reads.{IsNoAnswer, IsOfFault}
use Rattle.cs_frame.specs.declared.formats.FormatNumber.TheVariants.{Four}
use Rattle.cs_frame.specs.Roots.{root_fault}
use Rattle.cs_reader.proofs.Loading.{fault_or_none, memory_or_fault}
use Rattle.cs_reader.proofs.Ranges.{root_refused}
use Rattle.cs_mount.proofs.seals.read_root_version.Goals as goal

pub returns-in-Err-decode_root-clause-why : goal.returns-in-Err-decode_root-clause-why
returns-in-Err-decode_root-clause-why g c = λ h.
    let fault = c.in-Err-decode_root.fault in
    let r = c.refusal_of_fault.result in
    subst (λ (b : List ℕ). IsNoAnswer r ⊎ IsOfFault (root_fault Four b) r) (c.in-Ok.ensures.bytes h)
    (fault_or_none fault (root_fault Four c.read.new.buffer) r c.refusal_of_fault.ensures.same (λ ne. (c.decode_root.ensures.fault fault ne).0 c.in-Err-decode_root.is))

pub returns-in-Err-decode_root-clause-number : goal.returns-in-Err-decode_root-clause-number
returns-in-Err-decode_root-clause-number g c =
    let fault = c.in-Err-decode_root.fault in
    root_refused Four c.read.new.buffer c.refusal_of_fault.result
    (memory_or_fault fault (root_fault Four c.read.new.buffer) c.refusal_of_fault.result c.refusal_of_fault.ensures.same (λ ne. (c.decode_root.ensures.fault fault ne).0 c.in-Err-decode_root.is))
