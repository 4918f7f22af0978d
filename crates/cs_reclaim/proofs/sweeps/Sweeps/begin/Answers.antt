use Rattle.std.proofs.Common.{◌≡◌, ◌∙◌, Bool, ap, inl, inr, refl, subst, sym}
use Rattle.cs_extent.specs.State.{extents_of, shape}
use Rattle.law_machine.specs.Apart.{MayNotBegin, swept_aside}
use Rattle.law_machine.specs.Device.{Shape}
use Rattle.law_machine.specs.Extents.{Extents, other_than}
use Rattle.cs_reclaim.specs.ByRule.{IsBegunBy, IsSweptBy, MayNotBeginBy}
use Rattle.cs_reclaim.specs.Sweeps.{IsSwept, IsSweptApart}
use Rattle.cs_reclaim.proofs.Marking.{begun_apart}
use Rattle.cs_reclaim.proofs.Noted.{none_of}
use Rattle.cs_reclaim.proofs.Sweeping.{begun}
use Rattle.cs_reclaim.proofs.sweeps.Sweeps.begin.Goals as goal
use Rattle.cs_reclaim.proofs.sweeps.Sweeps.begin.Goals.{After-is_apart, After-set_aside}

same_rule : (c : After-is_apart) → c.is_apart.result ≡ (shape c.args.extents.now).apart
same_rule c = c.is_apart.ensures ∙ ap (λ (S : Shape). S.apart) c.set_swept.ensures.shape

-- ---- where chunks and runs lie apart

may : (c : After-set_aside) → MayNotBegin (shape c.args.extents.now) (extents_of c.args.extents.now) c.args.self.now c.args.extent → ⊥
may c =
    subst (λ (b : Bool). MayNotBeginBy b (shape c.args.extents.now) (extents_of c.args.extents.now) c.args.self.now c.args.extent → ⊥)
    (sym (c.is_apart.ensures ∙ ap (λ (S : Shape). S.apart) c.set_swept.ensures.shape) ∙ c.if-is_apart.true) (c.if-not-may_begin.ensures.may refl)

aside : (c : After-set_aside) → extents_of c.set_aside.new.self ≡ swept_aside (shape c.args.extents.now) (extents_of c.args.extents.now) c.args.extent
aside c =
    c.set_aside.ensures.extents
    ∙ ap (λ (x : Extents). record x { open_extent = other_than c.args.extent x.open_extent; last = other_than c.args.extent x.last }) c.set_swept.ensures.extents

pub returns-then-is_apart-clause-begun : goal.returns-then-is_apart-clause-begun
returns-then-is_apart-clause-begun c =
    let at = (goal.at.returns-then-is_apart-clause-begun c).After-set_aside in
    subst (λ (b : Bool). IsBegunBy b (shape c.args.extents.now) (extents_of c.args.extents.now) c.args.self.now c.args.extent (extents_of c.set_aside.new.self))
    (sym c.if-is_apart.true ∙ c.is_apart.ensures ∙ ap (λ (S : Shape). S.apart) c.set_swept.ensures.shape)
    (aside at, none_of c.args.self.now (λ some. may at (inr (inl some))))

pub returns-then-is_apart-clause-swept : goal.returns-then-is_apart-clause-swept
returns-then-is_apart-clause-swept c =
    let at = (goal.at.returns-then-is_apart-clause-swept c).After-set_aside in
    subst (λ (S : Shape). IsSweptBy S.apart S (extents_of c.set_aside.new.self) c.args.extent) (sym (c.set_aside.ensures.shape ∙ c.set_swept.ensures.shape))
    (subst (λ (b : Bool). IsSweptBy b (shape c.args.extents.now) (extents_of c.set_aside.new.self) c.args.extent) (sym c.if-is_apart.true ∙ c.is_apart.ensures ∙ ap (λ (S : Shape). S.apart) c.set_swept.ensures.shape)
    (subst (λ (x : Extents). IsSweptApart (shape c.args.extents.now) x c.args.extent) (sym (aside at))
    (begun_apart (shape c.args.extents.now) (extents_of c.args.extents.now) c.args.self.now c.args.extent (may at))))

-- ---- where they may lie on one extent

pub returns-else-is_apart-clause-swept : goal.returns-else-is_apart-clause-swept
returns-else-is_apart-clause-swept c =
    let off : c.is_apart.result ≡ (shape c.args.extents.now).apart = same_rule (goal.at.returns-else-is_apart-clause-swept c).After-is_apart in
    subst (λ (S : Shape). IsSweptBy S.apart S (extents_of c.set_swept.new.self) c.args.extent) (sym c.set_swept.ensures.shape)
    (subst (λ (b : Bool). IsSweptBy b (shape c.args.extents.now) (extents_of c.set_swept.new.self) c.args.extent) (sym c.if-is_apart.false ∙ off)
    (subst (λ (x : Extents). IsSwept (shape c.args.extents.now) x c.args.extent) (sym c.set_swept.ensures.extents)
    (begun (shape c.args.extents.now) (extents_of c.args.extents.now) c.args.extent
    (subst (λ (b : Bool). MayNotBeginBy b (shape c.args.extents.now) (extents_of c.args.extents.now) c.args.self.now c.args.extent → ⊥) (sym off ∙ c.if-is_apart.false) (c.if-not-may_begin.ensures.may refl)))))
