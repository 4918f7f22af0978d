use Rattle.std.proofs.Common.{◌≤◌, List, ℕ, subst, sym}
use Rattle.std.specs.Prelude.{All, ◌↔◌, IsTrue}
use Rattle.cs_chunk.proofs.Pieces.{each_in_range}
use Rattle.cs_chunk.proofs.Planned.{fits_or_full}
use Rattle.cs_extent.specs.Places.{FitIn}
use Rattle.cs_extent.specs.State.{shape}
use Rattle.law_machine.specs.Extents.{ForPut}
use Rattle.cs_chunk.proofs.cuts.Cut.fits.Goals as goal

pub fits-requires-clause-pages : goal.fits-requires-clause-pages
fits-requires-clause-pages c =
    let cut = c.args.self in
    subst (λ (ks : List ℕ). All (λ k. (1 ≤ k) × (k ≤ (shape c.args.extents.now).pages)) ks) (sym c.frames.ensures) (each_in_range _ cut.pages cut.last (shape c.args.extents.now).pages cut.least cut.most c.requires)

pub returns : goal.returns
returns c = λ bytes id command is.
    fits_or_full c.args.extents.now id command bytes c.extent_count.ensures.whole c.args.self is c.fits.result
    (subst (λ (ks : List ℕ). IsTrue c.fits.result ↔ FitIn c.args.extents.now ForPut ks) c.frames.ensures c.fits.ensures)
