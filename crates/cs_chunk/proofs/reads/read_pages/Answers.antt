use Rattle.std.proofs.Common.{◌+◌, arith, subst}
use Rattle.cs_chunk.specs.Newest.{IsReadAs}
use Rattle.cs_disk.specs.Disk.{State, seen}
use Rattle.cs_chunk.proofs.OnlyRead.{read_pushed}
use Rattle.cs_chunk.proofs.reads.read_pages.Goals as goal
use Rattle.cs_disk.proofs.OnlyRead.{reads_on}

pub returns-in-Err-clause-disk : goal.returns-in-Err-clause-disk
returns-in-Err-clause-disk g c = reads_on g.D.PageDisk c.args.disk.now c.loop-i.disk c.read_page.new.disk c.loop-i.invariant.disk c.read_page.ensures.disk

pub loop-i-preserved : goal.loop-i-preserved
loop-i-preserved g c = record {
  disk = reads_on g.D.PageDisk c.args.disk.now c.loop-i.disk c.read_page.new.disk c.loop-i.invariant.disk c.read_page.ensures.disk;
  size = omega (arith, c.push_reserved-in-loop-i.ensures.len, c.loop-i.invariant.size, c.push_reserved-in-loop-i.new.self.ok.0, c.loop-i.pages.ok.0);
  room = omega (arith, c.loop-i.invariant.room, c.push_reserved-in-loop-i.ensures.capacity);
  pages = λ h first.
      let read = subst (λ (s : State). IsReadAs c.args.graph.now (seen s) (c.args.first + c.loop-i.i) c.read_page.new.buffer) (c.loop-i.invariant.disk.same h) (c.in-Ok.ensures.page (c.loop-i.invariant.disk.honesty.0 h)) in
      read_pushed c.args.graph.now (seen (g.D.PageDisk.state c.args.disk.now)) c.args.first c.loop-i.i c.loop-i.pages.items c.push_reserved-in-loop-i.new.self.items c.read_page.new.buffer c.push_reserved-in-loop-i.ensures.items (c.loop-i.invariant.pages h first) read;
}
