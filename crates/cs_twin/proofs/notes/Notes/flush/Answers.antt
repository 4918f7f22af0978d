use Rattle.std.proofs.Common.{refl, ◌∙◌}
use Rattle.cs_twin.proofs.Right.{flushed_right, still_right}
use Rattle.cs_twin.proofs.notes.Notes.flush.Goals as goal

pub returns-in-Doubted-clause-right : goal.returns-in-Doubted-clause-right
returns-in-Doubted-clause-right g c = λ h. still_right _ c.args.pairs.now c.args.self.now _ _ _ c.refuse.ensures.notes (c.requires.right h)

pub returns-in-Ok-clause-right : goal.returns-in-Ok-clause-right
returns-in-Ok-clause-right g c = λ h.
    flushed_right (g.R.PageRules.version c.args.rules.now) c.args.pairs.now c.args.self.now _ (g.D.PageDisk.state c.args.disk.now) (g.D.PageDisk.state c.flush.new.self) (c.in-Ok.ensures.ok (c.flush.ensures.honest.1 h)) (c.requires.right (c.flush.ensures.honest.1 h))
    (c.copy_from_slice.ensures.items ∙ c.deref.ensures.value) refl refl
