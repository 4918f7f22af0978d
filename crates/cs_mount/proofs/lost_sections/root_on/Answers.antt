use Rattle.std.proofs.Common.{List, Option, subst, ℕ}
use Rattle.cs_frame.specs.Roots.{SpellsRoot, root_fault}
use Rattle.cs_reader.proofs.Loading.{memory_or_fault}
use Rattle.cs_reader.proofs.Ranges.{root_refused}
use Rattle.std.proofs.Common.{◌∙◌, ap, sym}
use Rattle.cs_frame.specs.declared.formats.FormatNumber.{FormatNumber}
use Rattle.cs_frame.specs.FormatNumbers.{number_in}
use Rattle.cs_reader.proofs.HeadReads.{damaged_root, other_root}
use Rattle.cs_reader.proofs.Loading.{fault_or_none}
use Rattle.cs_mount.proofs.lost_sections.root_on.Goals as goal

pub returns-then-is_its_root-clause-root : goal.returns-then-is_its_root-clause-root
returns-then-is_its_root-clause-root c =
    let root = c.in-Ok.root in
    subst (λ (store : Option (List ℕ)). SpellsRoot c.args.bytes.now store root.version root.commands root.runs.items) c.if-is_its_root.ensures c.in-Ok.ensures.spelled

pub returns-in-Err-clause-number : goal.returns-in-Err-clause-number
returns-in-Err-clause-number c =
    let fault = c.in-Err.fault in
    root_refused c.number.result c.args.bytes.now c.refusal_of_fault.result
    (memory_or_fault fault (root_fault c.number.result c.args.bytes.now) c.refusal_of_fault.result c.refusal_of_fault.ensures.same (λ ne. (c.decode_root.ensures.fault fault ne).0 c.in-Err.is))

pub returns-else-is_its_root-clause-why : goal.returns-else-is_its_root-clause-why
returns-else-is_its_root-clause-why c = other_root c.args.format c.args.bytes.now c.in-Ok.root (c.in-Ok.ensures.number ∙ c.number.ensures.number) c.if-is_its_root.ensures c.in-Ok.ensures.spelled

pub returns-in-Err-clause-why : goal.returns-in-Err-clause-why
returns-in-Err-clause-why c =
    let fault = c.in-Err.fault in
    damaged_root c.args.format c.args.bytes.now c.refusal_of_fault.result
    (fault_or_none fault (root_fault (number_in c.args.format) c.args.bytes.now) c.refusal_of_fault.result c.refusal_of_fault.ensures.same
    (λ ne. ap (λ (k : FormatNumber). root_fault k c.args.bytes.now) (sym c.number.ensures.number) ∙ (c.decode_root.ensures.fault fault ne).0 c.in-Err.is))
