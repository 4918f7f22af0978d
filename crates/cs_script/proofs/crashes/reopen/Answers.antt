use Rattle.std.proofs.Common.{◌∙◌, subst}
use Rattle.cs_writeback.specs.cs_extent.State.{shape}
use Rattle.cs_writeback.specs.cs_core.Views.{IsFound}
use Rattle.cs_script.proofs.crashes.reopen.Goals as goal

pub returns-in-Ok-clause-opened : goal.returns-in-Ok-clause-opened
returns-in-Ok-clause-opened g c =
    let e = c.in-Ok.ensures in
    let new = c.in-Ok.core in (
      c.crashed_disk-disk.result,
      c.crashed_disk-disk.ensures,
      record {
        history = e.new.0;
        base = e.new.1;
        limit_is = e.new.2 ∙ c.limit.ensures;
        image = e.image;
        store = e.store;
        found = λ h. subst (IsFound (shape new.store.extents) new.opened) c.opened.ensures.found (c.opened.ensures.image (e.honest.0 h));
        stays_honest = e.honest;
      },
    )
