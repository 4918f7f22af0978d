use Rattle.std.proofs.Common.{◌∙◌, ap}
use Rattle.cs_frame.specs.Bytes.{number}
use Rattle.cs_frame.specs.declared.formats.FormatNumber.{FormatNumber}
use Rattle.cs_frame.specs.FormatNumbers.{number_in}
use Rattle.cs_frame.specs.Superblocks.{superblock_fault}
use Rattle.cs_mount.specs.StorePairs.{section_version, without_fault}
use Rattle.cs_mount.proofs.Spelling.{another_read, faulty, no_section, none_is, section_read}
use Rattle.cs_mount.proofs.store_pairs.section_version.Goals as goal

pub returns-then-is_of-clause-version : goal.returns-then-is_of-clause-version
returns-then-is_of-clause-version c =
    let it = c.in-Ok.superblock in
    let has = c.if-is_of.ensures in
    section_read c.args.bytes.now c.args.geometry it.format it.version it.recorded it.extent_count it.pages it.sections it.section c.args.section it.extents.items c.in-Ok.ensures.spelled
    (c.in-Ok.ensures.number ∙ c.number.ensures.number ∙ ap number_in c.format.ensures.format) (has.of_format, has.of_extents, has.of_pages, has.of_sections, has.place)

pub returns-in-Ok-clause-version : goal.returns-in-Ok-clause-version
returns-in-Ok-clause-version c =
    let it = c.in-Ok.superblock in
    another_read c.args.bytes.now c.args.geometry it.format it.version it.recorded it.extent_count it.pages it.sections it.section c.args.section it.extents.items c.in-Ok.ensures.spelled
    (c.in-Ok.ensures.number ∙ c.number.ensures.number ∙ ap number_in c.format.ensures.format)
    (λ its. c.if-is_of.ensures (record { of_format = its.0; of_extents = its.1; of_pages = its.2; of_sections = its.3; place = its.4 }))

pub returns-clause-version : goal.returns-clause-version
returns-clause-version c =
    none_is c.unless_memory.result c.in-Err.fault (section_version c.args.geometry c.args.section c.args.bytes.now) c.unless_memory.ensures.none
    (λ ne. no_section c.args.geometry c.args.section c.args.bytes.now (faulty c.decode_section.result (superblock_fault c.number.result c.args.bytes.now) c.in-Err.fault (number 4 12 c.args.bytes.now) c.decode_section.ensures.fault ne c.in-Err.is
    ∙ ap (λ (n : FormatNumber). without_fault (superblock_fault n c.args.bytes.now) (number 4 12 c.args.bytes.now)) (c.number.ensures.number ∙ ap number_in c.format.ensures.format)))
