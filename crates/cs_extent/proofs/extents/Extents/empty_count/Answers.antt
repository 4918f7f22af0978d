use Rattle.std.proofs.Common.{◌∙◌, ap, ℕ}
use Rattle.std.specs.Prelude.{count_by, ◌==◌}
use Rattle.cs_extent.proofs.Empties.{count_is}
use Rattle.cs_extent.proofs.extents.Extents.empty_count.Goals as goal

pub returns : goal.returns
returns c = rw (← c.self.view_is) (c.count_empty.ensures ∙ ap (count_by (λ (e : ℕ × ℕ). e.0 == 0)) c.deref.ensures.value ∙ count_is c.self.inside.written.items)
