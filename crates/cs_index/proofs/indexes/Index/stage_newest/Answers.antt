use Rattle.std.proofs.Common.{Bool, map, subst}
use Rattle.std.specs.Prelude.{IfOk}
use Rattle.cs_extent.specs.Purposes.{reason_of}
use Rattle.cs_extent.specs.State.{shape}
use Rattle.cs_index.specs.Staged.{IsPartStagedBy, WritesPart}
use Rattle.cs_index.specs.State.{named_entry}
use Rattle.cs_index.proofs.Exact.{exact_placed, full_one, part_writes}
use Rattle.cs_index.proofs.Weights.{shape_light}
use Rattle.cs_index.proofs.indexes.Index.stage_newest.Goals as goal

pub run_fits-requires-clause-weight : goal.run_fits-requires-clause-weight
run_fits-requires-clause-weight c = shape_light c.args.self.now c.args.extents.now (map named_entry c.in_ok-run.run'.entries.items) c.requires.format c.requires.limit c.in_ok-run.ensures.light

pub returns-then-not-run_fits-clause-why : goal.returns-then-not-run_fits-clause-why
returns-then-not-run_fits-clause-why c =
    full_one (WritesPart c.args.portion.without_deletions c.args.self.now c.args.portion.newest) c.args.extents.now (reason_of c.args.purpose) (map named_entry c.in_ok-run.run'.entries.items)
    (λ es writes. (part_writes c.args.portion.without_deletions c.args.self.now c.args.portion.newest (map named_entry c.in_ok-run.run'.entries.items) es c.in_ok-run.ensures.merged writes, writes.1))
    (shape c.args.extents.now).apart c.requires.together (c.in_ok-run.ensures.merged, c.if-not-run_fits.ensures.0) c.if-not-run_fits.ensures.1

pub returns-clause-staged : goal.returns-clause-staged
returns-clause-staged c =
    subst (λ (b : Bool). IfOk c.stage_chosen.result (λ v. IsPartStagedBy b c.args.portion.without_deletions c.args.portion.newest c.args.self.now c.args.extents.now c.args.graph.now (reason_of c.args.purpose) v c.args.commands c.stage_chosen.new.self c.stage_chosen.new.extents c.stage_chosen.new.graph))
    c.requires.together c.stage_chosen.ensures.staged

pub returns-clause-why : goal.returns-clause-why
returns-clause-why c =
    exact_placed (WritesPart c.args.portion.without_deletions c.args.self.now c.args.portion.newest) c.args.extents.now (reason_of c.args.purpose) (map named_entry c.in_ok-run.run'.entries.items)
    (λ es writes. (part_writes c.args.portion.without_deletions c.args.self.now c.args.portion.newest (map named_entry c.in_ok-run.run'.entries.items) es c.in_ok-run.ensures.merged writes, writes.1))
    (shape c.args.extents.now).apart c.args.graph.now.staging c.stage_chosen.result c.requires.together c.if-not-run_fits.ensures c.stage_chosen.ensures.why
