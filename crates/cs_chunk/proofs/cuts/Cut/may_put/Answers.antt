use Rattle.std.proofs.Common.{◌≡◌, ◌≤◌, Err, List, ℕ, subst, sym}
use Rattle.std.specs.Prelude.{All, OnOk, ◌↔◌}
use Rattle.cs_refusal.specs.declared.refusals.Refusal.TheVariants.{Full, WornOut}
use Rattle.cs_chunk.proofs.Pieces.{each_in_range}
use Rattle.cs_extent.specs.Places.{FitIn}
use Rattle.cs_extent.specs.State.{shape}
use Rattle.cs_extent.specs.Worn.{AreWorn}
use Rattle.law_machine.specs.Extents.{ForPut}
use Rattle.cs_chunk.proofs.cuts.Cut.may_put.Goals as goal

pub may_append-requires-clause-pages : goal.may_append-requires-clause-pages
may_append-requires-clause-pages c =
    let cut = c.args.self in
    subst (λ (ks : List ℕ). All (λ k. (1 ≤ k) × (k ≤ (shape c.args.extents.now).pages)) ks) (sym c.frames.ensures) (each_in_range _ cut.pages cut.last (shape c.args.extents.now).pages cut.least cut.most c.requires.pages)

pub returns-clause-full : goal.returns-clause-full
returns-clause-full c = subst (λ (ks : List ℕ). (c.may_append.result ≡ Err Full) ↔ ¬ FitIn c.args.extents.now ForPut ks) c.frames.ensures c.may_append.ensures.full

pub returns-clause-worn : goal.returns-clause-worn
returns-clause-worn c =
    subst (λ (ks : List ℕ). (c.may_append.result ≡ Err WornOut) ↔ FitIn c.args.extents.now ForPut ks × AreWorn c.args.extents.now c.args.graph.now.staging ForPut ks) c.frames.ensures c.may_append.ensures.worn

pub returns-clause-fits : goal.returns-clause-fits
returns-clause-fits c = subst (λ (ks : List ℕ). OnOk c.may_append.result (FitIn c.args.extents.now ForPut ks)) c.frames.ensures c.may_append.ensures.fits
