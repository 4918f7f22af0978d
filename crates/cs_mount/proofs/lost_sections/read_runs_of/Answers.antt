use Rattle.std.proofs.Common.{IfOk, List, subst, sym}
use Rattle.std.specs.List.{AllByRecursion}
use Rattle.cs_disk.specs.Disk.{page, seen}
use Rattle.cs_frame.specs.declared.superblocks.Superblock.{Superblock}
use Rattle.cs_frame.specs.Runs.{IsRun}
use Rattle.law_machine.specs.Device.{Shape}
use Rattle.cs_mount.specs.MadeSections.{AreMadeFrom}
use Rattle.cs_mount.proofs.MadeListed.{if_read}
use Rattle.cs_mount.proofs.MadeRuns.{are_sections, room_there, shaped, stand_there}
use Rattle.std.proofs.Common.{◌∙◌, ◌⊎◌, ⊎_elim}
use Rattle.cs_core.specs.cs_chunk.Reads.{IsNoAnswer}
use Rattle.cs_reader.specs.Openings.{IsWhyNoRuns}
use Rattle.cs_mount.specs.StorePairs.{pages_of}
use Rattle.cs_mount.proofs.LivingOn.{disk_pages}
use Rattle.cs_mount.proofs.MadeRead.{runs_there}
use Rattle.cs_mount.proofs.MadeWhy.{if_refused}
use Rattle.cs_mount.proofs.lost_sections.read_runs_of.Goals as goal

pub of-requires : goal.of-requires
of-requires g c = are_sections c.args.geometry c.extents.ensures.geometry c.args.places.now c.deref.result.now
    (subst (λ (l : List Superblock). AreMadeFrom c.args.geometry c.args.places.now c.args.geometry.sections l) (sym c.deref.ensures.value) c.in_ok-sections.ensures.are)

pub new_graph-requires-clause-sections : goal.new_graph-requires-clause-sections
new_graph-requires-clause-sections g c = are_sections c.args.geometry c.extents.ensures.geometry c.args.places.now c.deref-2.result.now
    (subst (λ (l : List Superblock). AreMadeFrom c.args.geometry c.args.places.now c.args.geometry.sections l) (sym c.deref-2.ensures.value) c.in_ok-sections.ensures.are)

pub read_runs-requires-clause-device : goal.read_runs-requires-clause-device
read_runs-requires-clause-device g c = room_there c.args.geometry c.extents.ensures.geometry c.args.places.now c.deref.result.now
    (subst (λ (l : List Superblock). AreMadeFrom c.args.geometry c.args.places.now c.args.geometry.sections l) (sym c.deref.ensures.value) c.in_ok-sections.ensures.are)
    c.in_ok-extents.extents c.in_ok-extents.ensures (g.D.PageDisk.page_count c.args.disk.now) c.requires.sized

pub returns-clause-read : goal.returns-clause-read
returns-clause-read g c = λ h.
    if_read c.read_runs.result _ _
    (λ runs both. stand_there c.args.geometry c.extents.ensures.geometry c.args.places.now c.deref.result.now
    (subst (λ (l : List Superblock). AreMadeFrom c.args.geometry c.args.places.now c.args.geometry.sections l) (sym c.deref.ensures.value) c.in_ok-sections.ensures.are)
    c.in_ok-extents.extents c.in_ok-extents.ensures c.extent_count.ensures.whole (page (seen (g.D.PageDisk.state c.args.disk.now))) runs.items both.1)
    (c.read_runs.ensures.read h)

pub returns-clause-runs : goal.returns-clause-runs
returns-clause-runs g c =
    subst (λ (S : Shape). IfOk c.read_runs.result (λ runs. AllByRecursion (λ run. IsRun S.format (record { entries = run.entries })) runs.items))
    (shaped c.args.geometry c.extents.ensures.geometry c.args.places.now c.deref.result.now
    (subst (λ (l : List Superblock). AreMadeFrom c.args.geometry c.args.places.now c.args.geometry.sections l) (sym c.deref.ensures.value) c.in_ok-sections.ensures.are)
    c.in_ok-extents.extents c.in_ok-extents.ensures) c.read_runs.ensures.runs

pub returns-clause-why : goal.returns-clause-why
returns-clause-why g c = λ h view n m found frames listed.
    let D = g.D.PageDisk in
    let d = c.args.geometry in
    let other = page (seen (D.state c.args.disk.now)) in
    if_refused c.read_runs.result (λ r. IsNoAnswer r ⊎ IsWhyNoRuns c.in_ok-extents.extents other c.args.places.now r) IsNoAnswer
    (λ r why. ⊎_elim (λ none. none) (λ w. absurd (runs_there d c.extents.ensures.geometry c.args.places.now c.requires.twins c.deref.result.now
    (subst (λ (l : List Superblock). AreMadeFrom d c.args.places.now d.sections l) (sym c.deref.ensures.value) c.in_ok-sections.ensures.are)
    c.in_ok-extents.extents c.in_ok-extents.ensures c.extent_count.ensures.whole view other
    (disk_pages (D.state c.args.disk.now) (pages_of d) (g.met.D.PageDisk.whole c.args.disk.now h) (g.met.D.PageDisk.sized c.args.disk.now h ∙ sym c.requires.sized))
    n m found (λ e i there. sym (frames e i there)) listed r w)) why)
    (c.read_runs.ensures.why h)
