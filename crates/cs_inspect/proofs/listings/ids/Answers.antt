use Rattle.std.proofs.Common.{arith, map, refl}
use Rattle.std.proofs.lemmas.List.{length-map}
use Rattle.std.proofs.lemmas.Result.{IfOk-weaker}
use Rattle.cs_index.specs.State.{id_number, index_of}
use Rattle.cs_inspect.proofs.Listed.{IsThere, all_of_first, zero_number}
use Rattle.cs_inspect.proofs.listings.ids.Goals as goal

pub returns : goal.returns
returns c =
    IfOk-weaker c.ids_from.result _ _
    (λ ids h. all_of_first (IsThere (index_of c.args.index.now)) _ _ (map id_number ids.items) (zero_number _ refl) (omega (arith, length-map ids.items id_number, ids.ok.0, ids.ok.1, ids.small)) h)
    c.ids_from.ensures
