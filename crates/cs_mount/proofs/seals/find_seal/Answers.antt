use Rattle.std.proofs.Common.{◌∙◌, ◌⊎◌, inl, inr, ⊎_elim, ap, subst}
use Rattle.cs_core.specs.cs_chunk.Reads.{IsNoAnswer, IsOfFault}
use Rattle.cs_disk.specs.Disk.{State, page, seen}
use Rattle.cs_disk.proofs.OnlyRead.{reads_on}
use Rattle.cs_frame.specs.declared.formats.FormatNumber.TheVariants.{Four}
use Rattle.cs_frame.specs.Roots.{root_fault}
use Rattle.cs_mount.specs.Seals.{root_said}
use Rattle.cs_mount.proofs.Sealings.{seal_given}
use Rattle.cs_mount.proofs.seals.find_seal.Goals as goal

pub returns-in-Ok-read_root_version-clause-seal : goal.returns-in-Ok-read_root_version-clause-seal
returns-in-Ok-read_root_version-clause-seal g c = λ h.
    let reads = c.read_section.ensures.disk in
    seal_given c.seal_page.result (seen (g.D.PageDisk.state c.args.disk.now)) c.in-Ok.superblock c.in-Ok-read_root_version.root c.in-Ok.ensures.four (c.in-Ok.ensures.read h)
    (c.in-Ok-read_root_version.ensures.version (reads.honesty.0 h) ∙ ap (λ (s : State). root_said (seen s)) (reads.same h)) c.seal_page.ensures.seal

pub returns-in-Err-read_root_version-clause-why : goal.returns-in-Err-read_root_version-clause-why
returns-in-Err-read_root_version-clause-why g c = λ h.
    let reads = c.read_section.ensures.disk in
    let r = c.in-Err-read_root_version.refusal in
    ⊎_elim (λ (none : IsNoAnswer r). inl none) (λ (fault : IsOfFault (root_fault Four (page (seen (g.D.PageDisk.state c.args.disk.now)) 1)) r). inr (inr (inl fault)))
    (subst (λ (s : State). IsNoAnswer r ⊎ IsOfFault (root_fault Four (page (seen s) 1)) r) (reads.same h) (c.in-Err-read_root_version.ensures.why (reads.honesty.0 h)))

pub returns-in-Err-read_root_version-clause-disk : goal.returns-in-Err-read_root_version-clause-disk
returns-in-Err-read_root_version-clause-disk g c =
    reads_on g.D.PageDisk c.args.disk.now c.read_section.new.disk c.read_root_version.new.disk c.read_section.ensures.disk c.read_root_version.ensures.disk
