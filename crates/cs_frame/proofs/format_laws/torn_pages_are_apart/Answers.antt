use Rattle.std.proofs.Common.{Some}
use Rattle.law_machine.specs.Format.{Four}
use Rattle.cs_frame.specs.declared.formats.FormatNumber.TheVariants as of_number
use Rattle.cs_frame.proofs.FrameLaws.{frame_fault-spelled}
use Rattle.cs_frame.proofs.RootLaws.{spelled_has_none as root_has_none}
use Rattle.cs_frame.proofs.SuperblockLaws.{spelled_has_none}
use Rattle.cs_frame.proofs.TornLaws.{torn_frame, torn_root, torn_section}
use Rattle.cs_frame.proofs.format_laws.torn_pages_are_apart.Goals as goal

pub returns-clause-section : goal.returns-clause-section
returns-clause-section c = λ page torn store device version recorded extents pages sections section written s same.
    torn_section page torn (spelled_has_none page (Four store device) version recorded extents pages sections section written s) same

pub returns-clause-root : goal.returns-clause-root
returns-clause-root c = λ page torn store version commands runs s same.
    torn_root page torn (root_has_none page (Some store) version commands runs s) same

pub returns-clause-frame : goal.returns-clause-frame
returns-clause-frame c = λ kind other_kind pages torn payload s same.
    torn_frame kind other_kind pages torn (frame_fault-spelled of_number.Four kind pages payload s) same
