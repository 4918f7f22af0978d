use Rattle.std.proofs.Common.{map}
use Rattle.cs_extent.specs.Purposes.{reason_of}
use Rattle.cs_extent.specs.State.{shape}
use Rattle.law_machine.specs.Index.{IsMergedRun}
use Rattle.cs_index.specs.Staged.{WritesMerged}
use Rattle.cs_index.specs.State.{index_of, named_entry}
use Rattle.cs_index.proofs.Cases.{all_run}
use Rattle.cs_index.proofs.Exact.{fits_one, merged_writes}
use Rattle.cs_index.proofs.Weights.{shape_light}
use Rattle.cs_index.proofs.indexes.Index.merged_fits.Goals as goal

pub run_fits-requires-clause-weight : goal.run_fits-requires-clause-weight
run_fits-requires-clause-weight c = shape_light c.args.self.now c.args.extents.now (map named_entry c.in_ok-run.run'.entries.items) c.requires.format c.requires.limit c.in_ok-run.ensures.light

pub returns : goal.returns
returns c =
    let run : IsMergedRun (index_of c.args.self.now) (map named_entry c.in_ok-run.run'.entries.items) = all_run c.args.self.now c.run_count.result c.run_count.ensures.count (map named_entry c.in_ok-run.run'.entries.items) c.in_ok-run.ensures.merged in
    fits_one (WritesMerged c.args.self.now) c.args.extents.now (reason_of c.args.purpose) (map named_entry c.in_ok-run.run'.entries.items)
    (λ es writes. (merged_writes c.args.self.now (map named_entry c.in_ok-run.run'.entries.items) es run writes, writes.1))
    (shape c.args.extents.now).apart c.run_fits.result c.requires.together (λ some. (run, some)) c.run_fits.ensures
