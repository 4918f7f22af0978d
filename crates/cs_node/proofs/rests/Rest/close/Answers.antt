use Rattle.std.proofs.Common.{◌≡◌, ◌∙◌, ℕ, ap, sym, subst}
use Rattle.cs_node.specs.Numbers.{once_to}
use Rattle.cs_disk.specs.declared.disk.PageDisk.{Ghosts as PageDisk}
use Rattle.cs_disk.specs.Disk.{Leaves, page}
use Rattle.cs_core.specs.law_refinement.Crashes.{IsPrefix}
use Rattle.cs_core.specs.Meanings.{commands_said}
use Rattle.cs_core.specs.Views.{View}
use Rattle.cs_node.specs.Accounts.{Accounted, acknowledged_by}
use Rattle.cs_node.specs.Starts.{Start, shape_at}
use Rattle.cs_node.specs.Under.{RestView}
use Rattle.cs_node.proofs.Sums.{acknowledged_once}
use Rattle.cs_node.proofs.rests.Rest.close.Goals as goal

-- what a crash leaves of a core it leaves of the disk and the counts that were taken of it
left_of_parts : {D : Type 0} (disks : PageDisk D) (start : Start) (core : View D) (disk : D) (frontier accepted : ℕ)
    → disk ≡ core.disk → frontier ≡ core.store.frontier → accepted ≡ core.store.accepted
    → Leaves (disks.state core.disk) (IsPrefix (shape_at start) (page start.opened) (commands_said core.history) core.store.frontier core.store.accepted)
    → Leaves (disks.state disk) (IsPrefix (shape_at start) (page start.opened) (commands_said core.history) frontier accepted)
left_of_parts disks start core disk frontier accepted same_disk same_frontier same_accepted left =
    subst (λ d. Leaves (disks.state d) (IsPrefix (shape_at start) (page start.opened) (commands_said core.history) frontier accepted)) (sym same_disk)
    (subst (λ (f : ℕ). Leaves (disks.state core.disk) (IsPrefix (shape_at start) (page start.opened) (commands_said core.history) f accepted)) (sym same_frontier)
    (subst (λ (n : ℕ). Leaves (disks.state core.disk) (IsPrefix (shape_at start) (page start.opened) (commands_said core.history) core.store.frontier n)) (sym same_accepted) left))

pub returns-in-Ok-None-clause-closed : goal.returns-in-Ok-None-clause-closed
returns-in-Ok-None-clause-closed g c =
    let e = c.end.ensures in
    let handed : c.handed.result.now ≡ c.args.self.handed = c.handed.ensures ∙ ap (λ (r : RestView g.row.D.Denot). r.handed) c.self.view_is in
    record {
      tests = rw (c.in-Ok-None.field-0-is, c.core.ensures.core, c.given.ensures, handed, c.as_slice.ensures.value) at c.in-Ok-None.ensures;
      disk = e.disk;
      history = e.history;
      base = e.base;
      accepted = e.accepted;
      acknowledged = e.acknowledged;
    }

pub returns-in-Ok-None-clause-acknowledged : goal.returns-in-Ok-None-clause-acknowledged
returns-in-Ok-None-clause-acknowledged g c =
    let e = c.end.ensures in
    let handed : c.handed.result.now ≡ c.args.self.handed = c.handed.ensures ∙ ap (λ (r : RestView g.row.D.Denot). r.handed) c.self.view_is in
    let tests : Accounted c.args.self.core c.args.self.given c.args.self.handed c.args.purses.items = rw (c.in-Ok-None.field-0-is, c.core.ensures.core, c.given.ensures, handed, c.as_slice.ensures.value) at c.in-Ok-None.ensures in
    subst (λ (f : ℕ). (x : ℕ) → acknowledged_by f x c.args.self.handed c.args.purses.items ≡ once_to f x) (sym e.acknowledged) (acknowledged_once _ _ c.args.self.handed c.args.purses.items e.within tests.numbers tests.within)

pub returns-in-Ok-None-clause-left : goal.returns-in-Ok-None-clause-left
returns-in-Ok-None-clause-left g c = λ honest.
    let e = c.end.ensures in
    left_of_parts g.D.PageDisk g.K.Naming.start c.args.self.core c.end.result.disk c.end.result.acknowledged c.end.result.accepted e.disk e.acknowledged e.accepted (c.core.ensures.behind.left honest)
