use Rattle.cs_frame.specs.FormatNumbers.{number_in}
use Rattle.cs_frame.specs.Roots.{root_number}
use Rattle.cs_frame.proofs.FirstFormatLaws.{first_as_section, section_as_first, spelled_has_none as first_has_none}
use Rattle.cs_frame.proofs.FrameLaws.{frame_fault-spelled, other_format as other_frame}
use Rattle.cs_frame.proofs.RootLaws.{other_format as other_root, spelled_has_none as root_has_none}
use Rattle.cs_frame.proofs.SuperblockLaws.{other_format, spelled_has_none}
use Rattle.cs_frame.proofs.format_laws.formats_are_apart.Goals as goal

pub returns-clause-section : goal.returns-clause-section
returns-clause-section c = λ page format number version recorded extents pages sections section written s other.
    other_format (number_in format) number page (spelled_has_none page format version recorded extents pages sections section written s) other

pub returns-clause-section_as_first : goal.returns-clause-section_as_first
returns-clause-section_as_first c = λ page format version recorded extents pages sections section written s.
    section_as_first (number_in format) page (spelled_has_none page format version recorded extents pages sections section written s)

pub returns-clause-first_as_section : goal.returns-clause-first_as_section
returns-clause-first_as_section c = λ page number version pages extents s.
    first_as_section number page (first_has_none page version pages extents s)

pub returns-clause-root : goal.returns-clause-root
returns-clause-root c = λ page store number version commands runs s other.
    other_root (root_number store) number page (root_has_none page store version commands runs s) other

pub returns-clause-frame : goal.returns-clause-frame
returns-clause-frame c = λ number other kind other_kind pages payload s differ.
    other_frame number other kind other_kind pages (frame_fault-spelled number kind pages payload s) differ
