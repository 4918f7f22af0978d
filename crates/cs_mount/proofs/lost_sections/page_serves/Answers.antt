use Rattle.std.proofs.Common.{◌∙◌, ap, ℕ}
use Rattle.cs_frame.specs.declared.formats.FormatNumber.TheVariants as of_number
use Rattle.cs_frame.specs.Superblocks.{superblock_fault, superblock_record}
use Rattle.cs_mount.specs.MadeSections.{rows_serve}
use Rattle.cs_mount.proofs.MadeFound.{page_rows, whole_unfaulty}
use Rattle.cs_mount.proofs.lost_sections.page_serves.Goals as goal

pub returns-in-Ok-clause-serves : goal.returns-in-Ok-clause-serves
returns-in-Ok-clause-serves c = λ whole.
    let both = page_rows c.args.bytes.now c.in-Ok.superblock c.in-Ok.ensures.number c.in-Ok.ensures.spelled in
    let named = c.args.named.now in
    c.rows_serve.ensures ∙ ap (λ (n : ℕ). rows_serve named.root named.places.items c.args.start n c.in-Ok.superblock.extents.items) both.0
    ∙ ap (rows_serve named.root named.places.items c.args.start (superblock_record of_number.Four c.args.bytes.now)) both.1

pub returns-in-Err-clause-serves : goal.returns-in-Err-clause-serves
returns-in-Err-clause-serves c = λ whole.
    whole_unfaulty c.unless_memory.result c.in-Err.fault _ (superblock_fault of_number.Four c.args.bytes.now) _ c.unless_memory.ensures.none (λ ne. (c.decode_section.ensures.fault c.in-Err.fault ne).0 c.in-Err.is) whole
