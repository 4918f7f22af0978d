use Rattle.std.proofs.Common.{sym, ◌∙◌}
use Rattle.cs_store.proofs.Saying.{none_on}
use Rattle.cs_store.proofs.devices.pages_said.Goals as goal

pub returns-then-pages-eq0-clause-said : goal.returns-then-pages-eq0-clause-said
returns-then-pages-eq0-clause-said g c = λ h.
    let D = g.D.PageDisk in
    none_on (D.state c.args.disk.now) (D.page_count c.args.disk.now) (g.met.D.PageDisk.sized c.args.disk.now h) (sym c.pages.ensures ∙ c.if-pages-eq0.true)
