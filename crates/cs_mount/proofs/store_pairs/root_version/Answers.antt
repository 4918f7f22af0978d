use Rattle.std.proofs.Common.{◌∙◌, ap}
use Rattle.cs_frame.specs.Bytes.{number}
use Rattle.cs_frame.specs.declared.formats.FormatNumber.{FormatNumber}
use Rattle.cs_frame.specs.Roots.{identity_of, root_fault}
use Rattle.cs_mount.specs.StorePairs.{root_version, without_fault}
use Rattle.cs_mount.proofs.Spelling.{another_root, faulty, no_root, none_is, root_read}
use Rattle.cs_mount.proofs.store_pairs.root_version.Goals as goal

pub returns-then-is_its_root-clause-version : goal.returns-then-is_its_root-clause-version
returns-then-is_its_root-clause-version c =
    let it = c.in-Ok.root in
    root_read c.args.bytes.now c.args.format (identity_of it) it.version it.commands it.runs.items c.in-Ok.ensures.spelled (c.in-Ok.ensures.number ∙ c.number.ensures.number) c.if-is_its_root.ensures

pub returns-in-Ok-clause-version : goal.returns-in-Ok-clause-version
returns-in-Ok-clause-version c =
    let it = c.in-Ok.root in
    another_root c.args.bytes.now c.args.format (identity_of it) it.version it.commands it.runs.items c.in-Ok.ensures.spelled (c.in-Ok.ensures.number ∙ c.number.ensures.number) c.if-is_its_root.ensures

pub returns-clause-version : goal.returns-clause-version
returns-clause-version c =
    none_is c.unless_memory.result c.in-Err.fault (root_version c.args.format c.args.bytes.now) c.unless_memory.ensures.none
    (λ ne. no_root c.args.format c.args.bytes.now (faulty c.decode_root.result (root_fault c.number.result c.args.bytes.now) c.in-Err.fault (number 4 12 c.args.bytes.now) c.decode_root.ensures.fault ne c.in-Err.is
    ∙ ap (λ (n : FormatNumber). without_fault (root_fault n c.args.bytes.now) (number 4 12 c.args.bytes.now)) c.number.ensures.number))
