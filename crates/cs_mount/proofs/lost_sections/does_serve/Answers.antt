use Rattle.std.proofs.Common.{arith}
use Rattle.cs_frame.specs.declared.formats.FormatNumber.TheVariants as of_number
use Rattle.cs_frame.specs.Geometries.{section_start}
use Rattle.cs_frame.specs.Superblocks.{superblock_extents, superblock_record}
use Rattle.cs_mount.specs.MadeSections.{rows_serve}
use Rattle.cs_mount.proofs.MadeFound.{serves_by}
use Rattle.cs_mount.proofs.lost_sections.does_serve.Goals as goal

pub returns-clause-serves : goal.returns-clause-serves
returns-clause-serves c = λ whole.
    let named = c.args.named.now in
    let some = c.if-version-eq0.false in
    serves_by c.page_serves.result c.args.version (section_start named.geometry.extents named.geometry.sections c.args.section)
    (λ start. rows_serve named.root named.places.items start (superblock_record of_number.Four c.args.bytes.now) (superblock_extents of_number.Four c.args.bytes.now)) c.section_start-start.result
    (λ none. some none) c.section_start-start.ensures (c.page_serves.ensures.serves (whole (omega (arith, some))))
