use Rattle.std.proofs.Common.{◌∙◌, inl, inr, refl, sym}
use Rattle.cs_reader.proofs.Located.{hidden_gone, live_visible, located_visible, visible_live}
use Rattle.cs_reader.proofs.loads.load_index.Goals as goal

pub returns-then-not-are_live_located-clause-why : goal.returns-then-not-are_live_located-clause-why
returns-then-not-are_live_located-clause-why c =
    let x = c.args.extents.now in
    inr (refl, inl (λ by. c.if-not-are_live_located.ensures (visible_live x c.in-Ok.index c.args.runs.items _ _ c.in-Ok.ensures.loaded (by.visible (hidden_gone x (sym c.is_apart.ensures ∙ c.if-is_apart.true))))))

pub returns-else-not-are_live_located-clause-located : goal.returns-else-not-are_live_located-clause-located
returns-else-not-are_live_located-clause-located c =
    let x = c.args.extents.now in
    located_visible x c.args.runs.items (sym c.is_apart.ensures ∙ c.if-is_apart.true) (live_visible x c.in-Ok.index c.args.runs.items _ _ c.in-Ok.ensures.loaded c.if-not-are_live_located.ensures)
