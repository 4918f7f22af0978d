use Rattle.std.proofs.Common.{List, true, ap, subst, sym, ◌∙◌}
use Rattle.std.specs.declared.slice.Chunks.{Chunks}
use Rattle.cs_disk.proofs.OnlyRead.{reads_none, reads_on}
use Rattle.cs_disk.specs.Disk.{seen}
use Rattle.cs_salvage.specs.declared.whole_shards.WholeShard.{WholeShard}
use Rattle.cs_tools.specs.Salvages.{IsMeantBy, IsToldOf}
use Rattle.cs_tools.proofs.Exporting.{IsPrintedUpTo, all_printed, nothing_printed}
use Rattle.cs_tools.proofs.Salvaging.{means_whole, piece_meant, piece_told, written_out}
use Rattle.cs_tools.proofs.salvages.print_shards.Goals as goal

pub loop-piece-init : goal.loop-piece-init
loop-piece-init g c =
    let disks = g.D.PageDisk in
    let contents = g.W.Write.contents c.args.writer.now in
    let failed = disks.failure_count c.args.disk.now in
    let found = c.args.found.now in
    let same = c.into_iter-piece-iterator.ensures.into_iter_gives in
    let rest = ap (λ (items : Chunks WholeShard). items.rest.now) same ∙ c.chunks-piece-items.ensures.rest ∙ c.deref.ensures.value in
    let told = IsToldOf found.sought (seen (disks.state c.args.disk.now)) failed failed in
    record {
      size = ap (λ (items : Chunks WholeShard). items.size) same ∙ c.chunks-piece-items.ensures.size;
      disk = reads_none disks c.args.disk.now;
      lines = λ honest stand. subst (λ (shards : List WholeShard). IsPrintedUpTo told found.shards.items shards true contents contents) (sym rest) (nothing_printed told found.shards.items contents);
      meant = subst (λ (shards : List WholeShard). IsPrintedUpTo (IsMeantBy found.sought failed failed) found.shards.items shards true contents contents) (sym rest) (nothing_printed (IsMeantBy found.sought failed failed) found.shards.items contents);
    }

pub loop-piece-preserved : goal.loop-piece-preserved
loop-piece-preserved g c =
    let disks = g.D.PageDisk in
    let contents = g.W.Write.contents in
    let was = c.loop-piece.invariant in
    let first = c.args.disk.now in
    let here = c.loop-piece.disk in
    let then_ = c.print_piece.new.disk in
    let found = c.args.found.now in
    let step = c.in-Some.ensures.steps in
    record {
      size = step.0 ∙ was.size;
      disk = reads_on disks first here then_ was.disk c.in_ok-read.ensures.disk;
      lines = λ honest stand. piece_told found.sought (disks.failure_count first) (disks.failure_count here) (disks.failure_count then_) (disks.state first) (disks.state here) c.loop-piece.piece-iterator.size found.shards.items
          c.loop-piece.piece-iterator.rest.now c.in-Some.piece.now c.next.new.self.rest.now c.loop-piece.whole c.in_ok-read.read (contents c.args.writer.now) (contents c.loop-piece.writer) (contents c.print_piece.new.writer)
          was.disk.failures c.in_ok-read.ensures.disk.failures (was.disk.same honest) was.size stand (was.lines honest stand) step.1.0 step.1.1 step.1.2 (c.in_ok-read.ensures.lines (was.disk.honesty.0 honest));
      meant = piece_meant found.sought (disks.failure_count first) (disks.failure_count here) (disks.failure_count then_) was.disk.failures c.in_ok-read.ensures.disk.failures c.loop-piece.piece-iterator.size found.shards.items c.loop-piece.piece-iterator.rest.now c.in-Some.piece.now c.next.new.self.rest.now c.loop-piece.whole c.in_ok-read.read
          (contents c.args.writer.now) (contents c.loop-piece.writer) (contents c.print_piece.new.writer) was.size was.meant step.1.0 step.1.1 step.1.2 c.in_ok-read.ensures.meant;
    }

pub returns-clause-script : goal.returns-clause-script
returns-clause-script g c honest stand =
    let disks = g.D.PageDisk in
    let contents = g.W.Write.contents in
    let found = c.args.found.now in
    let image = seen (disks.state c.args.disk.now) in
    let failed = disks.failure_count c.args.disk.now in
    let failed_then = disks.failure_count c.loop-piece.disk in
    written_out image found failed failed_then (contents c.args.writer.now) (contents c.flush.new.self) c.loop-piece.whole
    (all_printed (IsToldOf found.sought image failed failed_then) found.shards.items c.loop-piece.piece-iterator.rest.now c.loop-piece.whole
    (contents c.args.writer.now) (contents c.loop-piece.writer) (contents c.flush.new.self) (c.loop-piece.invariant.lines honest stand) c.in-None.ensures.steps.1.0 c.in_ok-flush.ensures.bytes)

pub returns-clause-meant : goal.returns-clause-meant
returns-clause-meant g c =
    let contents = g.W.Write.contents in
    let found = c.args.found.now in
    let x = g.D.PageDisk.failure_count c.args.disk.now in
    let y = g.D.PageDisk.failure_count c.loop-piece.disk in
    means_whole found x y (contents c.args.writer.now) (contents c.flush.new.self) c.loop-piece.whole
    (all_printed (IsMeantBy found.sought x y) found.shards.items c.loop-piece.piece-iterator.rest.now c.loop-piece.whole
    (contents c.args.writer.now) (contents c.loop-piece.writer) (contents c.flush.new.self) c.loop-piece.invariant.meant c.in-None.ensures.steps.1.0 c.in_ok-flush.ensures.bytes)
