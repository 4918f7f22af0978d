use Rattle.std.proofs.Common.{◌∙◌, ◌-◌, ℕ, ap, arith, option_map, option_to_list}
use Rattle.cs_disk.proofs.Images.{length-applied}
use Rattle.cs_disk.specs.Disk.{seen}
use Rattle.cs_mount.specs.Hidden.{hidden_at}
use Rattle.cs_mount.specs.Unreadable.{dimensions_by, end_hidden_for}
use Rattle.cs_mount.proofs.EndsFound.{other_found, pages_found, store_found}
use Rattle.cs_mount.proofs.unreadable.find_store.Goals as goal

pub returns-in-Ok-geometry_by-clause-other : goal.returns-in-Ok-geometry_by-clause-other
returns-in-Ok-geometry_by-clause-other g c = λ h.
    let D = g.D.PageDisk in
    let disk = c.args.disk.now in
    let s = D.state disk in
    let n = D.page_count disk in
    let some = c.requires in
    let ends = c.in-Ok.ends in
    c.in-Ok-find_other.ensures.other ∙ ap (λ (m : ℕ). end_hidden_for m (option_map (λ it. it.0) c.args.id) ends.zero ends.last) c.pages-pages.ensures
    ∙ other_found n (seen s) (omega (arith, some)) (length-applied s.durable s.volatile ∙ g.met.D.PageDisk.sized disk h) ends.unread.items ends.zero ends.last (c.in-Ok.ensures.ends h) (option_map (λ it. it.0) c.args.id)

pub returns-in-Ok-geometry_by-clause-geometry : goal.returns-in-Ok-geometry_by-clause-geometry
returns-in-Ok-geometry_by-clause-geometry g c = λ h.
    let D = g.D.PageDisk in
    let disk = c.args.disk.now in
    let s = D.state disk in
    let n = D.page_count disk in
    let some = c.requires in
    let ends = c.in-Ok.ends in
    c.in-Ok-geometry_by.ensures.found ∙ ap (λ (m : ℕ). dimensions_by m c.hide.new.bytes c.hide-2.new.bytes) c.pages-pages.ensures
    ∙ store_found n (seen s) (omega (arith, some)) (length-applied s.durable s.volatile ∙ g.met.D.PageDisk.sized disk h) ends.unread.items ends.zero ends.last (c.in-Ok.ensures.ends h) c.in-Ok-find_other.other
    c.hide.new.bytes c.hide-2.new.bytes c.hide.ensures (c.hide-2.ensures ∙ ap (λ (m : ℕ). hidden_at (option_to_list c.in-Ok-find_other.other) (m - 1) ends.last) c.pages-pages.ensures)

pub returns-in-Ok-geometry_by-clause-pages : goal.returns-in-Ok-geometry_by-clause-pages
returns-in-Ok-geometry_by-clause-pages g c =
    let some = c.requires in
    pages_found (g.D.PageDisk.page_count c.args.disk.now) c.hide.new.bytes c.hide-2.new.bytes c.in-Ok-geometry_by.geometry (omega (arith, some))
    (c.in-Ok-geometry_by.ensures.found ∙ ap (λ (m : ℕ). dimensions_by m c.hide.new.bytes c.hide-2.new.bytes) c.pages-pages.ensures)
