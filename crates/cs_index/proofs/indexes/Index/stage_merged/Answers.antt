use Rattle.std.proofs.Common.{◌≡◌, arith, ap, drop, length}
use Rattle.std.proofs.lemmas.Result.{IfOk-weaker}
use Rattle.cs_extent.specs.Purposes.{reason_of}
use Rattle.cs_index.proofs.OfFormat.{fewest_runs}
use Rattle.cs_index.specs.Staged.{WritesMerged, WritesPart}
use Rattle.std.specs.Prelude.{true}
use Rattle.cs_index.proofs.Cases.{all_merged, all_writes, none_behind, writes_all}
use Rattle.cs_index.proofs.Exact.{exact_writes}
use Rattle.cs_index.proofs.indexes.Index.stage_merged.Goals as goal

pub stage_newest-requires-clause-left : goal.stage_newest-requires-clause-left
stage_newest-requires-clause-left c =
    let none : length (drop c.run_count.result c.args.self.now.runs) ≡ 0 = ap length (none_behind c.args.self.now c.run_count.result c.run_count.ensures.count) in
    omega (arith, none, fewest_runs c.args.extents.now.format)

pub stage_newest-requires-clause-alone : goal.stage_newest-requires-clause-alone
stage_newest-requires-clause-alone c = λ go. none_behind c.args.self.now c.run_count.result c.run_count.ensures.count

pub returns-clause-staged : goal.returns-clause-staged
returns-clause-staged c =
    IfOk-weaker c.stage_newest.result _ _
    (λ v staged. all_merged c.args.self.now c.args.extents.now c.args.graph.now (reason_of c.args.purpose) v c.args.commands c.stage_newest.new.self c.stage_newest.new.extents c.stage_newest.new.graph c.run_count.result c.run_count.ensures.count staged)
    c.stage_newest.ensures.staged

pub returns-clause-why : goal.returns-clause-why
returns-clause-why c =
    exact_writes (WritesPart true c.args.self.now c.run_count.result) (WritesMerged c.args.self.now) c.args.extents.now (reason_of c.args.purpose) c.args.graph.now.staging c.stage_newest.result
    (all_writes c.args.self.now c.run_count.result c.run_count.ensures.count) (writes_all c.args.self.now c.run_count.result c.run_count.ensures.count) c.stage_newest.ensures.why
