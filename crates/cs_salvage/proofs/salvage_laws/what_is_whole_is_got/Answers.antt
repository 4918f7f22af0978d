use Rattle.std.proofs.Common.{le_of_eq, sym}
use Rattle.cs_disk.specs.Disk.{page, seen}
use Rattle.law_refinement.proofs.Started.{seen_pages}
use Rattle.cs_salvage.proofs.Rescuing.{found_whole, whole_read, whole_refused}
use Rattle.cs_salvage.proofs.salvage_laws.what_is_whole_is_got.Goals as goal

pub returns-clause-got : goal.returns-clause-got
returns-clause-got g c = λ disk f n m h is all r.
    found_whole (g.D.PageDisk.honest disk) (g.D.PageDisk.page_count disk) (page (seen (g.D.PageDisk.state disk))) f n m h
    (seen_pages (g.D.PageDisk.state disk) (g.D.PageDisk.page_count disk) (g.met.D.PageDisk.whole disk h) (le_of_eq (sym (g.met.D.PageDisk.sized disk h)))) is all r

pub returns-clause-all_read : goal.returns-clause-all_read
returns-clause-all_read g c = λ disk f n m h is r.
    whole_read (g.D.PageDisk.honest disk) (g.D.PageDisk.page_count disk) (page (seen (g.D.PageDisk.state disk))) f n m h
    (seen_pages (g.D.PageDisk.state disk) (g.D.PageDisk.page_count disk) (g.met.D.PageDisk.whole disk h) (le_of_eq (sym (g.met.D.PageDisk.sized disk h)))) is r

pub returns-clause-damaged : goal.returns-clause-damaged
returns-clause-damaged g c = λ disk f n m id reason h is all r content.
    whole_refused (g.D.PageDisk.honest disk) (g.D.PageDisk.page_count disk) (page (seen (g.D.PageDisk.state disk))) f n m id reason h
    (seen_pages (g.D.PageDisk.state disk) (g.D.PageDisk.page_count disk) (g.met.D.PageDisk.whole disk h) (le_of_eq (sym (g.met.D.PageDisk.sized disk h)))) is all r content
