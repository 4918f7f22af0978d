use Rattle.std.proofs.Common.{◌∙◌}
use Rattle.cs_store.proofs.Running.{count_of}
use Rattle.cs_store.proofs.stores.Store.accepted.Goals as goal

pub returns-clause-commands : goal.returns-clause-commands
returns-clause-commands g c = rw (← c.self.view_is) (λ honest.
    let s = c.progress.ensures.legal honest in
    c.progress.ensures.accepted ∙ count_of g.D.PageDisk c.self.inside.core s.0 s.1)
