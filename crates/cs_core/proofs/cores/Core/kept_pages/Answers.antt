use Rattle.cs_core.proofs.Counted.{counted_room}
use Rattle.cs_core.proofs.cores.Core.kept_pages.Goals as goal

pub returns : goal.returns
returns g c = rw (← c.self.view_is) (λ none. counted_room c.self.inside.store.graph 0 c.kept_pages.result (c.kept_pages.ensures none))
