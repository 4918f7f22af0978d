use Rattle.std.proofs.Common.{arith, false, true}
use Rattle.cs_disk.proofs.OnlyRead.{reads_on}
use Rattle.cs_twin.proofs.Holding.{found_more, inside_at}
use Rattle.cs_twin.proofs.findings.read_findings.Goals as goal

pub read_pair-requires-clause-own : goal.read_pair-requires-clause-own
read_pair-requires-clause-own g c = inside_at c.args.pairs.now _ _ c.loop-pair.pair-index _ false c.requires c.loop-pair.invariant.disk.pages c.loop-pair-test.true

pub read_pair-requires-clause-twin : goal.read_pair-requires-clause-twin
read_pair-requires-clause-twin g c = inside_at c.args.pairs.now _ _ c.loop-pair.pair-index _ true c.requires c.loop-pair.invariant.disk.pages c.loop-pair-test.true

pub loop-pair-preserved : goal.loop-pair-preserved
loop-pair-preserved g c = record {
  disk = reads_on g.D.PageDisk c.args.disk.now c.loop-pair.disk c.read_pair.new.disk c.loop-pair.invariant.disk c.read_pair.ensures.disk;
  size = omega (arith, c.push_reserved.ensures.len, c.loop-pair.invariant.size, c.push_reserved.new.self.ok.0, c.loop-pair.found.ok.0);
  room = omega (arith, c.loop-pair.invariant.room, c.push_reserved.ensures.capacity);
  found = λ h. found_more (g.R.PageRules.version c.args.rules.now) (g.D.PageDisk.state c.loop-pair.disk) (g.D.PageDisk.state c.args.disk.now) c.args.pairs.now c.loop-pair.found.items c.push_reserved.new.self.items c.loop-pair.pair-index (record { page = 0; twin = 0 }) c.in-Ok.finding c.loop-pair-test.true (c.loop-pair.invariant.disk.same h) (c.loop-pair.invariant.found h) (c.in-Ok.ensures.finding (c.loop-pair.invariant.disk.honesty.0 h)) c.push_reserved.ensures.items;
}
