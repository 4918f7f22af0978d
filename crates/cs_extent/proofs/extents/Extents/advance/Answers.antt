use Rattle.std.proofs.Common.{◌+◌, ap, ℕ}
use Rattle.std.proofs.lemmas.List.{get_or_read}
use Rattle.cs_extent.specs.State.{State}
use Rattle.cs_extent.specs.contracts.extents.Extents.{the_view}
use Rattle.cs_extent.proofs.Changes.{advanced_extents}
use Rattle.cs_extent.proofs.extents.Extents.advance.Goals as goal

pub returns-clause-extents : goal.returns-clause-extents
returns-clause-extents c =
    let s : State = the_view c.self.inside in
    let inside = rw (← c.self.view_is) at c.requires.exists in
    let entry = get_or_read s.written c.args.extent c.index_mut-entry.result.now inside c.index_mut-entry.ensures.value (0, 0) in
    rw (← c.self.view_is) (advanced_extents s c.args.extent c.args.pages (c.index_mut-entry.result.now.0 + c.args.pages, c.index_mut-entry.result.now.1) inside
    (ap (λ (x : ℕ × ℕ). x.0 + c.args.pages) entry) (ap (λ (x : ℕ × ℕ). x.1) entry))
