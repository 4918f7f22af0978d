use Rattle.std.proofs.Common.{List, subst}
use Rattle.std.specs.Prelude.{MatchOption}
use Rattle.cs_frame.specs.Formats.{place_of}
use Rattle.cs_index.specs.State.{id_number}
use Rattle.law_machine.specs.Element.{Entry}
use Rattle.law_machine.specs.Index.{FirstLive, NothingLive}
use Rattle.cs_store.proofs.Listing.{index_shown}
use Rattle.cs_store.proofs.stores.Store.first_on.Goals as goal

pub returns : goal.returns
returns g c = rw (← c.self.view_is)
    (subst (λ (es : List Entry). MatchOption c.first_on.result (NothingLive es c.args.extent) (λ found. FirstLive es c.args.extent (id_number found.id) found.chunk (place_of found.place)))
    (index_shown c.self.inside.core.store.index c.index.result.now c.index.ensures.index) c.first_on.ensures)
