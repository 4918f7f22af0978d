use Rattle.std.proofs.Common.{[]}
use Rattle.cs_disk.specs.Disk.{seen}
use Rattle.cs_disk.specs.Memory.{memory_state}
use Rattle.cs_twin.proofs.Becoming.{left_more}
use Rattle.cs_twin.proofs.tears.lay_all.Goals as goal

pub loop-i-preserved : goal.loop-i-preserved
loop-i-preserved c =
    left_more (seen (memory_state c.args.disk.now)) (seen (memory_state c.loop-i.disk)) (seen (memory_state c.lay.new.disk)) c.args.writes.now c.args.fates.now c.loop-i.i (0, []) _ c.loop-i-test.true c.requires c.loop-i.invariant c.in_ok-lay.ensures.laid
