use Rattle.std.proofs.Common.{List, MatchOption, None, Option, ap, option_map, subst, sym, ℕ}
use Rattle.cs_frame.specs.declared.identifiers.ShardId.{ShardId}
use Rattle.cs_frame.specs.Formats.{place_of}
use Rattle.cs_index.specs.Copies.{FirstBehind, NoneBehind, numbered}
use Rattle.cs_index.specs.Live.{FirstAfter, NoneAfter}
use Rattle.cs_index.specs.Read.{Reading}
use Rattle.cs_index.specs.State.{id_number, index_of}
use Rattle.law_machine.specs.Element.{Entry}
use Rattle.cs_index.proofs.Next.{first_of_all, none_of_all, option_as}
use Rattle.cs_index.proofs.indexes.Index.first_behind.Goals as goal

pub returns-in_default : goal.returns-in_default
returns-in_default c =
    let index = index_of c.args.self.now in
    subst (λ (o : Option (ShardId × ℕ)). MatchOption c.search_behind.result (NoneBehind (index_of c.args.self.now) (option_map numbered o) c.args.extent)
    (λ found. FirstBehind (index_of c.args.self.now) (option_map numbered o) c.args.extent (id_number found.id) found.chunk (place_of found.place))) (sym c.in_default.is)
    (option_as c.search_behind.result (none_of_all index c.args.extent) (λ found there. first_of_all index c.args.extent (id_number found.id) found.chunk (place_of found.place) there)
    (subst (λ (es : List Entry). MatchOption c.search_behind.result (NoneAfter es None c.args.extent) (λ found. FirstAfter es None c.args.extent (id_number found.id) found.chunk (place_of found.place)))
    (ap (λ (r : Reading). r.index) c.entries.ensures) c.search_behind.ensures))
