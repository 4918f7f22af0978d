use Rattle.std.proofs.lemmas.Slice.Eq.{slice_eq-Decides}
use Rattle.cs_index.proofs.Whole.{locators_decide, same_locators}
use Rattle.cs_index.proofs.indexes.Index.has.Goals as goal

pub returns-in-Some : goal.returns-in-Some
returns-in-Some c =
    same_locators c.in-Some.found.now c.args.locators.now _ c.eq.result c.in-Some.ensures.last
    (slice_eq-Decides locators_decide c.in-Some.found.now c.args.locators.now c.eq.result c.eq.ensures)
