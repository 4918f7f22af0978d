use Rattle.std.proofs.Common.{◌∙◌, sym}
use Rattle.cs_extent.proofs.extents.Extents.count_versions.Goals as goal

pub count_planned-requires-clause-few : goal.count_planned-requires-clause-few
count_planned-requires-clause-few c = (c.requires.few (sym c.is_apart.ensures ∙ c.if-is_apart.true)).0
