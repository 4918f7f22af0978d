use Rattle.std.proofs.Common.{◌++◌, ℕ, Option, option_to_list, subst}
use Rattle.cs_disk.specs.Disk.{seen}
use Rattle.cs_mount.specs.Unreadable.{AreOfStore}
use Rattle.cs_mount.proofs.unreadable.unreadable_halves.Goals as goal

pub returns-in-Ok-clause-halves : goal.returns-in-Ok-clause-halves
returns-in-Ok-clause-halves g c = λ h.
    let D = g.D.PageDisk in
    let list = c.in-Ok.unread.items in
    subst (λ (o : Option ℕ). AreOfStore (D.page_count c.args.disk.now) (option_to_list o ++ list) list (seen (D.state c.args.disk.now))) (c.in-Ok.ensures.hidden h) (c.in-Ok.ensures.halves h)
