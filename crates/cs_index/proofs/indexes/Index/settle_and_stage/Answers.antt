use Rattle.std.proofs.Common.{◌≡◌, ◌∙◌, ap, arith, length, true}
use Rattle.std.proofs.lemmas.Result.{IfOk-weaker}
use Rattle.cs_index.specs.Apart.{IsStageFullApart, IsStageWornApart}
use Rattle.cs_index.specs.Copies.{newest_copies, settle_table}
use Rattle.law_machine.specs.Geometry.{marks_in}
use Rattle.law_machine.specs.Index.{entries_of}
use Rattle.cs_index.proofs.Chosen.{exact_too, why_too}
use Rattle.cs_index.proofs.Settled.{settled_so}
use Rattle.cs_index.proofs.indexes.Index.settle_and_stage.Goals as goal

pub settle-requires : goal.settle-requires
settle-requires c = ap marks_in c.requires.format ∙ c.requires.apart

pub why_not-requires-clause-limit : goal.why_not-requires-clause-limit
why_not-requires-clause-limit c = c.in-Ok.ensures.settled.limit ∙ c.requires.limit

pub why_not-requires-clause-format : goal.why_not-requires-clause-format
why_not-requires-clause-format c = c.in-Ok.ensures.settled.format ∙ c.requires.format

pub stage_root-requires-clause-limit : goal.stage_root-requires-clause-limit
stage_root-requires-clause-limit c = c.in-Ok.ensures.settled.limit ∙ c.requires.limit

pub stage_root-requires-clause-format : goal.stage_root-requires-clause-format
stage_root-requires-clause-format c = c.in-Ok.ensures.settled.format ∙ c.requires.format

pub stage_root-requires-clause-runs : goal.stage_root-requires-clause-runs
stage_root-requires-clause-runs c = omega (arith, c.requires.runs, ap length c.in-Ok.ensures.settled.runs)

pub returns-then-generation_worn-clause-settled : goal.returns-then-generation_worn-clause-settled
returns-then-generation_worn-clause-settled c = (
  c.settle.new.self,
  c.in-Ok.ensures.settled,
  tt,
  why_too (IsStageFullApart c.settle.new.self c.args.extents.now) (IsStageWornApart c.settle.new.self c.args.extents.now c.args.graph.now.staging) (c.args.generation_worn ≡ true) c.why_not.result c.if-generation_worn.true c.why_not.ensures,
)

pub returns-clause-settled : goal.returns-clause-settled
returns-clause-settled c = (
  c.settle.new.self,
  c.in-Ok.ensures.settled,
  IfOk-weaker c.stage_root.result _ _ (λ v staged. (staged, c.stage_root.ensures.map)) c.stage_root.ensures.staged,
  exact_too (IsStageFullApart c.settle.new.self c.args.extents.now) (IsStageWornApart c.settle.new.self c.args.extents.now c.args.graph.now.staging) (c.args.generation_worn ≡ true) c.stage_root.result
      (λ on. absurd (cc (c.if-generation_worn.false, on))) c.stage_root.ensures.why,
)

pub returns-in-Err-clause-settled : goal.returns-in-Err-clause-settled
returns-in-Err-clause-settled c = (
  record c.args.self.now { table = settle_table (entries_of c.args.self.now.runs) c.args.self.now.table (newest_copies c.args.copies.now) },
  settled_so c.args.self.now (newest_copies c.args.copies.now),
  tt,
  tt,
)
