use Rattle.std.proofs.Common.{◌∙◌, inl, inr, map, refl, sym}
use Rattle.std.proofs.lemmas.Bool.{false≢true}
use Rattle.cs_extent.specs.Purposes.{reason_of}
use Rattle.cs_extent.specs.State.{shape}
use Rattle.cs_index.specs.State.{named_entry}
use Rattle.cs_index.proofs.Chosen.{chosen_fits, nowhere_none}
use Rattle.cs_index.proofs.indexes.Index.why_not.Goals as goal

pub choose-requires-clause-some : goal.choose-requires-clause-some
choose-requires-clause-some c = λ none. false≢true (sym c.if-is_table_empty.false ∙ c.is_table_empty.ensures.1 none)

pub returns-then-is_table_empty : goal.returns-then-is_table_empty
returns-then-is_table_empty c = inl (refl, nowhere_none c.args.self.now c.args.extents.now (c.is_table_empty.ensures.0 c.if-is_table_empty.true))

pub returns : goal.returns
returns c =
    let e = c.in-Ok.ensures in
    inl (refl, chosen_fits (shape c.args.extents.now).apart c.requires.apart c.args.self.now c.args.extents.now (map named_entry c.in-Ok.field-0.run.entries.items) c.in-Ok.field-0.portion.newest c.in-Ok.field-0.portion.without_deletions (reason_of c.in-Ok.field-0.purpose) e.chosen e.deletions e.run.merged e.placed)

pub returns-in-Err : goal.returns-in-Err
returns-in-Err c = inr c.in-Err.ensures.refused
