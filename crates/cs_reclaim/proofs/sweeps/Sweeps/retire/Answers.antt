use Rattle.std.proofs.Common.{◌≡◌, ◌∙◌, ◌↔◌, Bool, Err, refl, subst, sym}
use Rattle.std.specs.Prelude.{IfOk, OnOk}
use Rattle.cs_refusal.specs.declared.refusals.Refusal.TheVariants.{StillLive}
use Rattle.cs_extent.specs.State.{extents_of, shape}
use Rattle.cs_index.specs.State.{index_of}
use Rattle.cs_reclaim.specs.ByRule.{IsRetireExactBy, IsRetiredBy, IsSweptBy, NothingToMoveBy}
use Rattle.cs_reclaim.specs.Retired.{IsRetired}
use Rattle.cs_reclaim.proofs.ByRule.{ok_beside, one_rule}
use Rattle.cs_reclaim.proofs.sweeps.Sweeps.retire.Goals as goal

-- ---- where chunks and runs lie apart

pub retire_copied-requires-clause-swept : goal.retire_copied-requires-clause-swept
retire_copied-requires-clause-swept c =
    subst (λ (b : Bool). IsSweptBy b (shape c.args.extents.now) (extents_of c.args.extents.now) c.args.extent) (sym c.is_apart.ensures ∙ c.if-not-is_apart.false) c.requires.swept

pub returns-clause-retired : goal.returns-clause-retired
returns-clause-retired c =
    subst (λ (b : Bool). IfOk c.retire_copied.result (λ v. IsRetiredBy b c.args.index.now c.args.extents.now c.args.graph.now c.args.self.now c.args.extent v c.args.commands c.retire_copied.new.index c.retire_copied.new.extents c.retire_copied.new.graph c.retire_copied.new.self)) (sym c.if-not-is_apart.false ∙ c.is_apart.ensures) c.retire_copied.ensures.retired

pub returns-clause-map : goal.returns-clause-map
returns-clause-map c = λ off. one_rule (shape c.args.extents.now).apart (sym c.is_apart.ensures ∙ c.if-not-is_apart.false) off

pub returns-clause-all : goal.returns-clause-all
returns-clause-all c =
    subst (λ (b : Bool). OnOk c.retire_copied.result (NothingToMoveBy b (index_of c.args.index.now) c.args.self.now c.args.extent)) (sym c.if-not-is_apart.false ∙ c.is_apart.ensures) c.retire_copied.ensures.all

pub returns-clause-left : goal.returns-clause-left
returns-clause-left c =
    subst (λ (b : Bool). (c.retire_copied.result ≡ Err StillLive) ↔ (NothingToMoveBy b (index_of c.args.index.now) c.args.self.now c.args.extent → ⊥)) (sym c.if-not-is_apart.false ∙ c.is_apart.ensures) c.retire_copied.ensures.left

pub returns-clause-why : goal.returns-clause-why
returns-clause-why c =
    subst (λ (b : Bool). NothingToMoveBy b (index_of c.args.index.now) c.args.self.now c.args.extent → IsRetireExactBy b c.retire_copied.result c.args.index.now c.args.extents.now c.args.graph.now c.args.self.now c.args.extent) (sym c.if-not-is_apart.false ∙ c.is_apart.ensures) c.retire_copied.ensures.why

-- ---- where they may lie on one extent

pub retire_extent-requires-clause-swept : goal.retire_extent-requires-clause-swept
retire_extent-requires-clause-swept c =
    subst (λ (b : Bool). IsSweptBy b (shape c.args.extents.now) (extents_of c.args.extents.now) c.args.extent) (sym c.is_apart.ensures ∙ c.if-not-is_apart.true) c.requires.swept

pub returns-then-not-is_apart-clause-retired : goal.returns-then-not-is_apart-clause-retired
returns-then-not-is_apart-clause-retired c =
    subst (λ (b : Bool). IfOk c.retire_extent.result (λ v. IsRetiredBy b c.args.index.now c.args.extents.now c.args.graph.now c.args.self.now c.args.extent v c.args.commands c.retire_extent.new.index c.retire_extent.new.extents c.retire_extent.new.graph c.args.self.now)) (sym c.if-not-is_apart.true ∙ c.is_apart.ensures) (ok_beside c.retire_extent.result (λ v. IsRetired c.args.index.now c.args.extents.now c.args.graph.now c.args.extent v c.args.commands c.retire_extent.new.index c.retire_extent.new.extents c.retire_extent.new.graph) (c.args.self.now ≡ c.args.self.now) c.retire_extent.ensures.retired refl)

pub returns-then-not-is_apart-clause-all : goal.returns-then-not-is_apart-clause-all
returns-then-not-is_apart-clause-all c =
    subst (λ (b : Bool). OnOk c.retire_extent.result (NothingToMoveBy b (index_of c.args.index.now) c.args.self.now c.args.extent)) (sym c.if-not-is_apart.true ∙ c.is_apart.ensures) c.retire_extent.ensures.nothing

pub returns-then-not-is_apart-clause-left : goal.returns-then-not-is_apart-clause-left
returns-then-not-is_apart-clause-left c =
    subst (λ (b : Bool). (c.retire_extent.result ≡ Err StillLive) ↔ (NothingToMoveBy b (index_of c.args.index.now) c.args.self.now c.args.extent → ⊥)) (sym c.if-not-is_apart.true ∙ c.is_apart.ensures) c.retire_extent.ensures.alive

pub returns-then-not-is_apart-clause-why : goal.returns-then-not-is_apart-clause-why
returns-then-not-is_apart-clause-why c =
    subst (λ (b : Bool). NothingToMoveBy b (index_of c.args.index.now) c.args.self.now c.args.extent → IsRetireExactBy b c.retire_extent.result c.args.index.now c.args.extents.now c.args.graph.now c.args.self.now c.args.extent) (sym c.if-not-is_apart.true ∙ c.is_apart.ensures) c.retire_extent.ensures.why
