use Rattle.std.proofs.Common.{ℕ, [], ◌∷◌, ◌++◌, Option, subst, sym}
use Rattle.cs_inspect.specs.Uses.{AreTallied}
use Rattle.cs_inspect.proofs.Tallied.{tallied_none, tallied_some}
use Rattle.cs_inspect.proofs.surveys.count.Goals as goal

pub returns-in-Some : goal.returns-in-Some
returns-in-Some c = λ heads was.
    subst (λ (p : Option ℕ). AreTallied (heads ++ (c.args.extent, p) ∷ []) c.add.new.counts c.args.unreadable.now) (sym c.in-Some.is)
    (tallied_some heads c.args.live.now c.args.unreadable.now c.add.new.counts c.args.extent c.in-Some.amount was c.requires.live c.add.ensures)

pub returns-in-None : goal.returns-in-None
returns-in-None c = λ heads was.
    subst (λ (p : Option ℕ). AreTallied (heads ++ (c.args.extent, p) ∷ []) c.args.live.now c.add-in-None.new.counts) (sym c.in-None.is)
    (tallied_none heads c.args.live.now c.args.unreadable.now c.add-in-None.new.counts c.args.extent was c.requires.unreadable c.add-in-None.ensures)
