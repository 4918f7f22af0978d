use Rattle.std.proofs.Common.{◌∙◌, ◌+◌, ap, ℕ, suc, add-one, arith, sym}
use Rattle.std.proofs.lemmas.List.{get_or_read}
use Rattle.cs_extent.specs.State.{State}
use Rattle.cs_extent.specs.contracts.extents.Extents.{the_view}
use Rattle.cs_extent.proofs.Noting.{reset_apart, reset_mixed}
use Rattle.cs_extent.proofs.extents.Extents.reset.Goals as goal

pub returns-then-apart-clause-extents : goal.returns-then-apart-clause-extents
returns-then-apart-clause-extents c =
    let s : State = the_view c.self.inside in
    let inside = rw (← c.self.view_is) at c.requires.exists in
    let so = rw (← c.self.view_is) at (sym c.is_apart-apart.ensures ∙ c.if-apart.true) in
    let entry = get_or_read s.written c.args.extent c.index_mut-entry.result.now inside c.index_mut-entry.ensures.value (0, 0) in
    rw (← c.self.view_is) (reset_apart s c.args.extent c.args.root (c.index_mut-entry.result.now.1 + 1) c.other_than-self-inside.result c.other_than-self-inside-then-apart.result so inside
    (omega (arith, inside, c.self.invariant.whole.all_resets)) (omega (arith, inside, c.self.invariant.whole.all_kinds)) (omega (arith, inside, c.self.invariant.whole.all_found))
    (add-one c.index_mut-entry.result.now.1 ∙ ap (λ (x : ℕ × ℕ). suc x.1) entry) c.other_than-self-inside.ensures c.other_than-self-inside-then-apart.ensures)

pub returns-else-apart-clause-extents : goal.returns-else-apart-clause-extents
returns-else-apart-clause-extents c =
    let s : State = the_view c.self.inside in
    let inside = rw (← c.self.view_is) at c.requires.exists in
    let so = rw (← c.self.view_is) at (sym c.is_apart-apart.ensures ∙ c.if-apart.false) in
    let entry = get_or_read s.written c.args.extent c.index_mut-entry.result.now inside c.index_mut-entry.ensures.value (0, 0) in
    rw (← c.self.view_is) (reset_mixed s c.args.extent c.args.root (c.index_mut-entry.result.now.1 + 1) so inside (omega (arith, inside, c.self.invariant.whole.all_resets))
    (add-one c.index_mut-entry.result.now.1 ∙ ap (λ (x : ℕ × ℕ). suc x.1) entry))
