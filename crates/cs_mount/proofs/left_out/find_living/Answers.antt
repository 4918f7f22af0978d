use Rattle.std.proofs.Common.{◌≡◌, ◌∙◌, ◌++◌, Bool, List, MatchBool, ap, sym, subst}
use Rattle.cs_core.specs.cs_index.State.{index_of}
use Rattle.cs_core.specs.Openings.{IsOpened}
use Rattle.cs_disk.specs.Disk.{Image, seen}
use Rattle.law_machine.specs.Element.{Entry, Run}
use Rattle.law_machine.specs.Index.{entries_of}
use Rattle.law_machine.specs.Tally.{lives_on}
use Rattle.cs_mount.specs.LeftOut.{NothingOn}
use Rattle.cs_mount.specs.StorePairs.{pages_of}
use Rattle.cs_mount.proofs.LivingOn.{disk_pages, index_runs, index_table, tells_living, tells_lt}
use Rattle.cs_mount.proofs.left_out.find_living.Goals as goal
use Rattle.cs_mount.proofs.left_out.find_living.Goals.{then-has_run_on, else-has_run_on}

pub returns-after-has_run_on-clause-lives : goal.returns-after-has_run_on-clause-lives
returns-after-has_run_on-clause-lives g c = λ h d geo twins sized n m found.
    let D = g.D.PageDisk in
    let disk = c.args.disk in
    let e = c.args.extent in
    let core = c.in-Ok.core in
    let image = seen (D.state disk) in
    let is : IsOpened (D.honest disk) image core.found core.store = subst (λ (i : Image). IsOpened (D.honest disk) i core.found core.store) (c.in-Ok.ensures.image h).0 c.in-Ok.ensures.store in
    let are = disk_pages (D.state disk) (pages_of d) (g.met.D.PageDisk.whole disk h) (g.met.D.PageDisk.sized disk h ∙ sized) in
    let runs = index_runs image core.found core.store (D.honest disk) h is d geo twins are n m found in
    let table = index_table image core.found core.store (D.honest disk) h is d geo twins are n m found in
    let index = c.index-index.result.now in
    let same : index.runs ≡ found.runs = ap (λ i. i.runs) (sym c.index-index.ensures.index) ∙ runs in
    let entries : index_of index ≡ entries_of found.runs = ap index_of (sym c.index-index.ensures.index) ∙ ap (λ (t : List Entry). t ++ entries_of core.store.index.runs) table ∙ ap (λ (rs : List Run). entries_of rs) runs in
    elim c.if-has_run_on.branch [
      | then-has_run_on w ↦ subst (λ (b : Bool). MatchBool b (¬ NothingOn found.runs e) (NothingOn found.runs e)) (sym (w.lives-is ∙ w.if-has_run_on.true))
          (tells_living index.runs found.runs e c.has_run_on.result same c.has_run_on.ensures w.if-has_run_on.true)
      | else-has_run_on w ↦ subst (λ (b : Bool). MatchBool b (¬ NothingOn found.runs e) (NothingOn found.runs e)) (sym w.lives-is)
          (tells_lt index.runs found.runs e w.lives_on.result c.has_run_on.result same c.has_run_on.ensures w.if-has_run_on.false (w.lives_on.ensures ∙ ap (lives_on e) entries))
    ]

pub returns-in-Err-clause-lives : goal.returns-in-Err-clause-lives
returns-in-Err-clause-lives g c = λ h d geo twins sized n m found. c.in-Err.ensures.recovers h d.format d.extents d.pages d.sections geo sized n m found
