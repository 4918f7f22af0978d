use Rattle.std.proofs.Common.{◌≡◌, ◌∙◌, ◌+◌, arith, ap}
use Rattle.cs_disk.proofs.OnlyRead.{reads_on}
use Rattle.cs_disk.specs.Disk.{State, page, seen}
use Rattle.cs_disk.specs.Reads.{OnlyReads}
use Rattle.cs_salvage.proofs.OnlyRead.{read_pushed}
use Rattle.cs_salvage.proofs.parts.read_pages.Goals as goal

pub loop-i-preserved : goal.loop-i-preserved
loop-i-preserved g c =
    let e = c.read.ensures in
    let once : OnlyReads g.D.PageDisk c.loop-i.disk c.read.new.self = record { same = e.state; still = e.still; time = e.time; device = e.device; honesty = e.honest; pages = e.pages; failures = e.cause.later; sound = e.sound } in
    record {
      disk = reads_on g.D.PageDisk c.args.disk.now c.loop-i.disk c.read.new.self c.loop-i.invariant.disk once;
      size = omega (arith, c.push_reserved-in-loop-i.ensures.len, c.loop-i.invariant.size, c.push_reserved-in-loop-i.new.self.ok.0, c.loop-i.pages.ok.0);
      room = omega (arith, c.loop-i.invariant.room, c.push_reserved-in-loop-i.ensures.capacity);
      pages = λ h first.
          let read : c.read.new.buffer ≡ page (seen (g.D.PageDisk.state c.args.disk.now)) (c.args.first + c.loop-i.i) =
          c.in-Ok.ensures.bytes (c.loop-i.invariant.disk.honesty.0 h) ∙ ap (λ (s : State). page (seen s) (c.args.first + c.loop-i.i)) (c.loop-i.invariant.disk.same h) in
          read_pushed (seen (g.D.PageDisk.state c.args.disk.now)) c.args.first c.loop-i.i c.loop-i.pages.items c.push_reserved-in-loop-i.new.self.items c.read.new.buffer c.push_reserved-in-loop-i.ensures.items (c.loop-i.invariant.pages h first) read;
    }
