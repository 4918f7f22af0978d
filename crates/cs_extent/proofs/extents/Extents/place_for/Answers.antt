use Rattle.std.proofs.Common.{◌∙◌, Bool, sym, subst, ℕ}
use Rattle.std.specs.Prelude.{MatchOption}
use Rattle.law_machine.specs.Extents.{Goes}
use Rattle.cs_extent.specs.Purposes.{reason_of}
use Rattle.cs_extent.specs.State.{extents_of, shape}
use Rattle.cs_extent.proofs.extents.Extents.place_for.Goals as goal

pub returns-then-is_apart : goal.returns-then-is_apart
returns-then-is_apart c =
    subst (λ (b : Bool). MatchOption c.place_after.result ((e : ℕ) → Goes (shape c.args.self.now) b (extents_of c.args.self.now) (reason_of c.args.purpose) c.args.pages e → ⊥) (Goes (shape c.args.self.now) b (extents_of c.args.self.now) (reason_of c.args.purpose) c.args.pages))
    (sym c.if-is_apart.true ∙ c.is_apart.ensures) c.place_after.ensures

pub returns-else-is_apart : goal.returns-else-is_apart
returns-else-is_apart c =
    subst (λ (b : Bool). MatchOption c.place_v2.result ((e : ℕ) → Goes (shape c.args.self.now) b (extents_of c.args.self.now) (reason_of c.args.purpose) c.args.pages e → ⊥) (Goes (shape c.args.self.now) b (extents_of c.args.self.now) (reason_of c.args.purpose) c.args.pages))
    (sym c.if-is_apart.false ∙ c.is_apart.ensures) c.place_v2.ensures
