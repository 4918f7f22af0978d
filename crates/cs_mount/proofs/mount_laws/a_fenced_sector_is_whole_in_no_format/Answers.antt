use Rattle.cs_mount.proofs.Sectored.{no_first, no_root, no_section, no_zero}
use Rattle.cs_mount.proofs.mount_laws.a_fenced_sector_is_whole_in_no_format.Goals as goal

pub returns-clause-root : goal.returns-clause-root
returns-clause-root c = no_root

pub returns-clause-section : goal.returns-clause-section
returns-clause-section c = no_section

pub returns-clause-first : goal.returns-clause-first
returns-clause-first c = no_first

pub returns-clause-zero : goal.returns-clause-zero
returns-clause-zero c = no_zero
