use Rattle.std.proofs.Common.{◌≡◌, ◌∙◌, ◌+◌, Bool, None, Option, ap, arith, false, refl, subst, sym, ℕ, Some, Ok, Err, Result}
use Rattle.std.specs.Prelude.{slice_index}
use Rattle.cs_refusal.specs.declared.refusals.Refusal.{Refusal}
use Rattle.cs_extent.specs.Frames.{root_family}
use Rattle.cs_extent.specs.State.{extents_of, shape}
use Rattle.cs_index.specs.Merges.{deletions_go, stage_takes}
use Rattle.law_machine.specs.Device.{Shape}
use Rattle.law_machine.specs.Extents.{ForRun}
use Rattle.cs_reclaim.specs.ByRule.{IsSweepStagedBy, MayStageBy}
use Rattle.cs_reclaim.proofs.ByRule.{exact_apart, exact_together, may_apart, none_exact, one_rule, some_table}
use Rattle.cs_reclaim.proofs.Resting.{part_shape, staged_format, staged_limit, staged_root, staged_shape, staged_small}
use Rattle.cs_reclaim.proofs.sweeps.Sweeps.stage.Goals as goal
use Rattle.cs_reclaim.proofs.sweeps.Sweeps.stage.Goals.{After-is_apart, In-Ok-stage_root}

abbrev err_of : Refusal → Result ℕ Refusal
err_of r = Err r

-- ---- where there is nothing to stage a root for

pub returns-then-not-may_stage-clause-none : goal.returns-then-not-may_stage-clause-none
returns-then-not-may_stage-clause-none c = ((λ is may. absurd (cc (c.if-not-may_stage.true, c.may_stage.ensures.1 may))), (λ none. refl))

pub returns-then-not-may_stage-clause-why : goal.returns-then-not-may_stage-clause-why
returns-then-not-may_stage-clause-why c =
    none_exact {T = Option ℕ} None (shape c.args.extents.now).apart c.args.index.now c.args.extents.now c.args.graph.now.staging c.args.self.now (λ may. absurd (cc (c.if-not-may_stage.true, c.may_stage.ensures.1 may)))

-- ---- where chunks and runs may lie on one extent

pub stage_v2-requires-clause-some : goal.stage_v2-requires-clause-some
stage_v2-requires-clause-some c =
    some_table (shape c.args.extents.now).apart (shape c.args.extents.now) (extents_of c.args.extents.now) c.args.index.now c.args.self.now (sym c.is_apart.ensures ∙ c.if-not-is_apart.true) (c.may_stage.ensures.0 c.if-not-may_stage.false)

pub returns-in-Ok-clause-none : goal.returns-in-Ok-clause-none
returns-in-Ok-clause-none c = ((λ is. absurd (cc is)), (λ not. absurd (not (c.may_stage.ensures.0 c.if-not-may_stage.false))))

pub returns-in-Ok-clause-staged : goal.returns-in-Ok-clause-staged
returns-in-Ok-clause-staged c = λ v is.
    let same : c.in-Ok.root ≡ v = cc is in
    subst (λ (b : Bool). IsSweepStagedBy b c.args.index.now c.args.extents.now c.args.graph.now c.args.self.now v c.args.commands c.stage_v2.new.self c.stage_v2.new.extents c.stage_v2.new.graph c.args.self.now) (sym c.if-not-is_apart.true ∙ c.is_apart.ensures)
    (rw (← same) (c.in-Ok.ensures.staged, refl))

pub returns-in-Ok-clause-lookups : goal.returns-in-Ok-clause-lookups
returns-in-Ok-clause-lookups c = λ off stay. c.in-Ok.ensures.lookups stay

pub returns-in-Ok-clause-why : goal.returns-in-Ok-clause-why
returns-in-Ok-clause-why c =
    exact_together (Ok c.in-Ok.root) Some (shape c.args.extents.now).apart c.args.index.now c.args.extents.now c.args.graph.now.staging c.args.self.now (sym c.is_apart.ensures ∙ c.if-not-is_apart.true) (some_table (shape c.args.extents.now).apart (shape c.args.extents.now) (extents_of c.args.extents.now) c.args.index.now c.args.self.now (sym c.is_apart.ensures ∙ c.if-not-is_apart.true) (c.may_stage.ensures.0 c.if-not-may_stage.false)) c.in-Ok.ensures.why

pub returns-in-Ok-clause-shape : goal.returns-in-Ok-clause-shape
returns-in-Ok-clause-shape c =
    part_shape false (deletions_go (shape c.args.extents.now) c.args.index.now (stage_takes (shape c.args.extents.now) c.args.index.now)) (stage_takes (shape c.args.extents.now) c.args.index.now) c.args.index.now c.stage_v2.new.self
    c.args.extents.now c.stage_v2.new.extents c.args.graph.now c.stage_v2.new.graph ForRun c.in-Ok.root c.args.commands c.in-Ok.ensures.staged

pub returns-in-Ok-clause-format : goal.returns-in-Ok-clause-format
returns-in-Ok-clause-format c = c.in-Ok.ensures.staged.format

pub returns-in-Ok-clause-limit : goal.returns-in-Ok-clause-limit
returns-in-Ok-clause-limit c = c.in-Ok.ensures.staged.limit

pub returns-in-Err-clause-why : goal.returns-in-Err-clause-why
returns-in-Err-clause-why c =
    exact_together (err_of c.in-Err.refusal) Some (shape c.args.extents.now).apart c.args.index.now c.args.extents.now c.args.graph.now.staging c.args.self.now (sym c.is_apart.ensures ∙ c.if-not-is_apart.true) (some_table (shape c.args.extents.now).apart (shape c.args.extents.now) (extents_of c.args.extents.now) c.args.index.now c.args.self.now (sym c.is_apart.ensures ∙ c.if-not-is_apart.true) (c.may_stage.ensures.0 c.if-not-may_stage.false)) c.in-Err.ensures.why

-- ---- where they lie apart

may : (c : After-is_apart) → MayStageBy (shape c.args.extents.now).apart (shape c.args.extents.now) (extents_of c.args.extents.now) c.args.index.now c.args.self.now
may c = c.may_stage.ensures.0 c.if-not-may_stage.false

same_shape : (c : In-Ok-stage_root) → shape c.stage_root.new.extents ≡ shape c.args.extents.now
same_shape c = staged_shape c.args.index.now c.stage_root.new.self c.args.extents.now c.stage_root.new.extents c.args.graph.now c.stage_root.new.graph c.in-Ok-stage_root.root c.args.commands c.in-Ok-stage_root.ensures.staged

pub end_root-requires-clause-apart : goal.end_root-requires-clause-apart
end_root-requires-clause-apart c = ap (λ (S : Shape). S.apart) (same_shape (goal.at.end_root-requires-clause-apart c).In-Ok-stage_root) ∙ sym c.is_apart.ensures ∙ c.if-not-is_apart.false

pub end_root-requires-clause-root : goal.end_root-requires-clause-root
end_root-requires-clause-root c = staged_small c.args.index.now c.stage_root.new.self c.args.extents.now c.stage_root.new.extents c.args.graph.now c.stage_root.new.graph c.in-Ok-stage_root.root c.args.commands c.in-Ok-stage_root.ensures.staged

pub returns-in-Ok-stage_root-clause-none : goal.returns-in-Ok-stage_root-clause-none
returns-in-Ok-stage_root-clause-none c = ((λ is. absurd (cc is)), (λ not. absurd (not (c.may_stage.ensures.0 c.if-not-may_stage.false))))

pub returns-in-Ok-stage_root-clause-staged : goal.returns-in-Ok-stage_root-clause-staged
returns-in-Ok-stage_root-clause-staged c = λ v is.
    let same : c.in-Ok-stage_root.root ≡ v = cc is in
    subst (λ (b : Bool). IsSweepStagedBy b c.args.index.now c.args.extents.now c.args.graph.now c.args.self.now v c.args.commands c.stage_root.new.self c.end_root.new.extents c.stage_root.new.graph c.end_root.new.self) (sym c.if-not-is_apart.false ∙ c.is_apart.ensures)
    (rw (← same) (record {
      mid = c.stage_root.new.extents;
      staged = c.in-Ok-stage_root.ensures.staged;
      same_shape = same_shape (goal.at.returns-in-Ok-stage_root-clause-staged c).In-Ok-stage_root;
      whole = c.end_root.ensures.whole;
      rooted = c.end_root.ensures.rooted;
    }))

pub returns-in-Ok-stage_root-clause-lookups : goal.returns-in-Ok-stage_root-clause-lookups
returns-in-Ok-stage_root-clause-lookups c = λ off. one_rule (shape c.args.extents.now).apart (sym c.is_apart.ensures ∙ c.if-not-is_apart.false) off

pub returns-in-Ok-stage_root-clause-why : goal.returns-in-Ok-stage_root-clause-why
returns-in-Ok-stage_root-clause-why c =
    let rule = sym c.is_apart.ensures ∙ c.if-not-is_apart.false in
    exact_apart (Ok c.in-Ok-stage_root.root) Some (shape c.args.extents.now).apart c.args.index.now c.args.extents.now c.args.graph.now.staging c.args.self.now rule
    (may_apart (shape c.args.extents.now).apart (shape c.args.extents.now) (extents_of c.args.extents.now) c.args.index.now c.args.self.now rule (c.may_stage.ensures.0 c.if-not-may_stage.false)) c.in-Ok-stage_root.ensures.why

pub returns-in-Ok-stage_root-clause-shape : goal.returns-in-Ok-stage_root-clause-shape
returns-in-Ok-stage_root-clause-shape c = c.end_root.ensures.rooted.same_shape ∙ same_shape (goal.at.returns-in-Ok-stage_root-clause-shape c).In-Ok-stage_root

pub returns-in-Ok-stage_root-clause-limit : goal.returns-in-Ok-stage_root-clause-limit
returns-in-Ok-stage_root-clause-limit c = staged_limit c.args.index.now c.stage_root.new.self c.args.extents.now c.stage_root.new.extents c.args.graph.now c.stage_root.new.graph c.in-Ok-stage_root.root c.args.commands c.in-Ok-stage_root.ensures.staged

pub returns-in-Ok-stage_root-clause-format : goal.returns-in-Ok-stage_root-clause-format
returns-in-Ok-stage_root-clause-format c = staged_format c.args.index.now c.stage_root.new.self c.args.extents.now c.stage_root.new.extents c.args.graph.now c.stage_root.new.graph c.in-Ok-stage_root.root c.args.commands c.in-Ok-stage_root.ensures.staged

pub returns-in-Ok-stage_root-clause-ready : goal.returns-in-Ok-stage_root-clause-ready
returns-in-Ok-stage_root-clause-ready c =
    let ready = c.in-Ok-stage_root.ensures.ready in
    let root = staged_root c.args.index.now c.stage_root.new.self c.args.extents.now c.stage_root.new.extents c.args.graph.now c.stage_root.new.graph c.in-Ok-stage_root.root c.args.commands c.in-Ok-stage_root.ensures.staged
    (omega (arith, ready.families, c.end_root.ensures.whole.geometry.fewest_sections)) in record {
      families = ready.families ∙ ap (λ (S : Shape). 1 + S.sections) (sym c.end_root.ensures.rooted.same_shape);
      resets = c.end_root.ensures.resets (slice_index c.stage_root.new.graph.staging.latest root_family) ready.resets (omega (arith, root));
    }

pub returns-in-Err-stage_root-clause-lookups : goal.returns-in-Err-stage_root-clause-lookups
returns-in-Err-stage_root-clause-lookups c = λ off. one_rule (shape c.args.extents.now).apart (sym c.is_apart.ensures ∙ c.if-not-is_apart.false) off

pub returns-in-Err-stage_root-clause-why : goal.returns-in-Err-stage_root-clause-why
returns-in-Err-stage_root-clause-why c =
    let rule = sym c.is_apart.ensures ∙ c.if-not-is_apart.false in
    exact_apart (err_of c.in-Err-stage_root.refusal) Some (shape c.args.extents.now).apart c.args.index.now c.args.extents.now c.args.graph.now.staging c.args.self.now rule
    (may_apart (shape c.args.extents.now).apart (shape c.args.extents.now) (extents_of c.args.extents.now) c.args.index.now c.args.self.now rule (c.may_stage.ensures.0 c.if-not-may_stage.false)) c.in-Err-stage_root.ensures.why
