use Rattle.std.proofs.Common.{subst, sym, ℕ}
use Rattle.cs_disk.specs.Disk.{page, seen}
use Rattle.cs_salvage.specs.Founds.{IsRoomFor}
use Rattle.cs_salvage.proofs.Opening.{room_for}
use Rattle.cs_salvage.proofs.rescues.Rescue.open.Goals as goal

pub invariant_of-result : goal.invariant_of-result
invariant_of-result g c = subst (λ (n : ℕ). IsRoomFor c.in-Ok.found n) (sym c.read_store-read.ensures.disk.pages)
    (room_for (g.D.PageDisk.honest c.args.disk) (g.D.PageDisk.page_count c.args.disk) (page (seen (g.D.PageDisk.state c.args.disk))) c.in-Ok.found c.in-Ok.ensures.found)
