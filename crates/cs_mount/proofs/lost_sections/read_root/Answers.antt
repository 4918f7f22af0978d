use Rattle.std.proofs.Common.{◌∙◌, ◌⊎◌, IfErr, List, Option, ap, inl, subst}
use Rattle.cs_core.specs.cs_chunk.Reads.{IsNoAnswer}
use Rattle.cs_disk.specs.Disk.{page, seen}
use Rattle.cs_frame.specs.Geometries.{Dimensions}
use Rattle.cs_reader.specs.Openings.{IsWhyNoRoot}
use Rattle.cs_twin.specs.declared.pairs.Pair.{Pair}
use Rattle.cs_twin.specs.Pairs.{half, is_turned}
use Rattle.law_machine.specs.Format.{Format}
use Rattle.cs_mount.specs.MadeSections.{shown_half}
use Rattle.cs_mount.specs.StorePairs.{store_version}
use Rattle.cs_mount.proofs.Crossings.{no_answer}
use Rattle.cs_mount.proofs.lost_sections.read_root.Goals as goal

pub returns-in-Ok-clause-why : goal.returns-in-Ok-clause-why
returns-in-Ok-clause-why g c = λ h.
    let d = c.args.geometry in
    let image = seen (g.D.PageDisk.state c.args.disk.now) in
    let shown = c.in-Ok.ensures.shown h ∙ ap (λ (o : Option Dimensions). page image (half c.store_pair.result (is_turned (store_version o) image c.store_pair.result))) c.requires.rules ∙ ap (λ (x : Pair). shown_half d image x) c.store_pair.ensures in
    subst (λ (bytes : List _). IfErr c.root_on.result (λ r. IsNoAnswer r ⊎ IsWhyNoRoot d.format bytes r)) shown
    (subst (λ (f : Format). IfErr c.root_on.result (λ r. IsNoAnswer r ⊎ IsWhyNoRoot f c.read_halves.new.buffer r)) c.format.ensures.format c.root_on.ensures.why)

pub returns-in-Err-clause-why : goal.returns-in-Err-clause-why
returns-in-Err-clause-why g c = λ h. inl (no_answer c.in-Err.fault c.refusal_of_disk.result c.refusal_of_disk.ensures)
