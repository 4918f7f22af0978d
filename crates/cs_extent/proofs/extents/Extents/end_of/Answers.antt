use Rattle.std.proofs.Common.{◌≤◌, ℕ, subst, sym}
use Rattle.cs_extent.proofs.extents.Extents.end_of.Goals as goal

pub returns-then-page-found-clause-fits : goal.returns-then-page-found-clause-fits
returns-then-page-found-clause-fits c =
    subst (λ (n : ℕ). n ≤ c.args.self.now.pages) (sym c.found-found.ensures) (c.extent_count.ensures.whole.found_pages c.args.extent)
