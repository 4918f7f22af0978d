use Rattle.std.proofs.Common.{◌∙◌}
use Rattle.std.proofs.lemmas.List.{with_items_is}
use Rattle.cs_twin.proofs.Right.{read_right, still_right}
use Rattle.cs_twin.proofs.notes.Notes.refresh.Goals as goal

pub returns-in-Doubted-clause-right : goal.returns-in-Doubted-clause-right
returns-in-Doubted-clause-right g c = λ h. still_right _ c.args.pairs.now c.args.self.now _ _ _ c.refuse.ensures.notes (c.requires.right h)

pub returns-in-Ok-clause-right : goal.returns-in-Ok-clause-right
returns-in-Ok-clause-right g c = λ h.
    let old = c.read_held.ensures.disk.honesty.1 h in
    read_right (g.R.PageRules.version c.args.rules.now) c.args.pairs.now _ c.args.self.now _ (g.D.PageDisk.state c.args.disk.now) _ c.in-Ok.known c.requires.pairs (g.met.D.PageDisk.sized c.args.disk.now old) (g.met.D.PageDisk.whole c.args.disk.now old) (c.read_held.ensures.disk.same old) c.in-Unread.is (c.requires.right old) (c.in-Ok.ensures.known old)
    (with_items_is c.args.self.now.newest c.read_held.new.held (c.read_held.auto.held ∙ c.deref_mut.ensures.len) ∙ c.in-Ok.ensures.held old) (c.copy_from_slice.ensures.items ∙ c.deref.ensures.value) c.trust_in-self.ensures
