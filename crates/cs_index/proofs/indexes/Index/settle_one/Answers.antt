use Rattle.cs_index.specs.Copies.{copy_of}
use Rattle.cs_index.proofs.Marks.{keep_marked}
use Rattle.cs_index.proofs.Settled.{settled_light}
use Rattle.cs_index.proofs.indexes.Index.settle_one.Goals as goal

pub enter-requires-clause-marks : goal.enter-requires-clause-marks
enter-requires-clause-marks c = keep_marked c.args.self.now.format c.in-Some.locators.items c.requires

pub enter-requires-clause-limit : goal.enter-requires-clause-limit
enter-requires-clause-limit c =
    let there = rw (c.in-Some.is) at c.in_ok-locators.ensures in
    settled_light c.args.self.now (copy_of c.args.copy) c.in-Some.locators.items c.run_count.ensures.whole there.0 there.1
