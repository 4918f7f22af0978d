use Rattle.std.proofs.Common.{arith}
use Rattle.cs_frame.proofs.RunSizes.{one_few, sizes_more}
use Rattle.cs_frame.proofs.format_runs.packed_sizes.Goals as goal

pub loop-entry-preserved : goal.loop-entry-preserved
loop-entry-preserved c =
    let more = sizes_more c.args.entries.now c.loop-entry.entry-index c.entry-item.result c.loop-entry-test.true c.entry-item.is in
    let few = one_few c.args.entries.now c.loop-entry.entry-index c.entry-item.result c.loop-entry-test.true c.entry-item.is c.requires.few in
    (omega (arith, more), omega (arith, few))
