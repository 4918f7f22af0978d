use Rattle.std.proofs.Common.{List, true, ap, refl, subst, sym, ◌∙◌}
use Rattle.std.specs.declared.slice.Chunks.{Chunks}
use Rattle.cs_disk.proofs.OnlyRead.{reads_none, reads_on}
use Rattle.cs_frame.specs.declared.identifiers.ShardId.{ShardId}
use Rattle.law_machine.specs.State.{map_now}
use Rattle.cs_tools.specs.Exports.{IsMeantOf}
use Rattle.cs_tools.proofs.Exporting.{IsPrintedUpTo, all_printed, nothing_printed, piece_of, piece_printed}
use Rattle.cs_tools.proofs.Meant.{piece_meant}
use Rattle.cs_tools.proofs.Resting.{store_read}
use Rattle.cs_tools.proofs.Retelling.{IsTold, piece_told, script_read, told_around}
use Rattle.cs_tools.proofs.Still.{same_live, same_on, stays_in}
use Rattle.cs_tools.proofs.exports.print_shards.Goals as goal

pub loop-piece-init : goal.loop-piece-init
loop-piece-init g c =
    let contents = g.W.Write.contents c.args.writer.now in
    let failed = g.D.PageDisk.failure_count c.args.core.now.disk in
    let same = c.into_iter-piece-iterator.ensures.into_iter_gives in
    let rest = ap (λ (items : Chunks ShardId). items.rest.now) same ∙ c.chunks-piece-items.ensures.rest in
    record {
      size = ap (λ (items : Chunks ShardId). items.size) same ∙ c.chunks-piece-items.ensures.size;
      same = refl;
      disk = reads_none g.D.PageDisk c.args.core.now.disk;
      lines = λ s is honest live. subst (λ (ids : List ShardId). IsPrintedUpTo (IsTold (map_now s) failed failed) c.args.ids.now ids true contents contents) (sym rest) (nothing_printed (IsTold (map_now s) failed failed) c.args.ids.now contents);
      meant = λ live. subst (λ (ids : List ShardId). IsPrintedUpTo (IsMeantOf c.args.core.now.store failed failed) c.args.ids.now ids true contents contents) (sym rest) (nothing_printed (IsMeantOf c.args.core.now.store failed failed) c.args.ids.now contents);
    }

pub loop-piece-preserved : goal.loop-piece-preserved
loop-piece-preserved g c =
    let disks = g.D.PageDisk in
    let contents = g.W.Write.contents in
    let failures = disks.failure_count in
    let was = c.loop-piece.invariant in
    let first = c.args.core.now in
    let now = c.loop-piece.core in
    let ids = c.args.ids.now in
    let rest = c.loop-piece.piece-iterator.rest.now in
    let piece = c.in-Some.piece.now in
    let left = c.next.new.self.rest.now in
    let step = c.in-Some.ensures.steps in
    record {
      size = step.0 ∙ was.size;
      same = same_on first now c.print_piece.new.core was.same c.in_ok-read.ensures.same;
      disk = reads_on disks first.disk now.disk c.print_piece.new.core.disk was.disk c.in_ok-read.ensures.disk;
      lines = λ s is honest live.
          let so_far = was.lines s is honest live in
          piece_printed (IsTold (map_now s)) (told_around (map_now s)) (failures first.disk) (failures now.disk) (failures c.print_piece.new.core.disk) c.loop-piece.piece-iterator.size ids rest piece left c.loop-piece.whole c.in_ok-read.read (contents c.args.writer.now) (contents c.loop-piece.writer) (contents c.print_piece.new.writer)
          was.disk.failures c.in_ok-read.ensures.disk.failures was.size so_far step.1.0 step.1.1 step.1.2
          (piece_told (map_now s) (failures now.disk) (failures c.print_piece.new.core.disk) piece c.in_ok-read.read (contents c.loop-piece.writer) (contents c.print_piece.new.writer)
          (c.in_ok-read.ensures.lines s (stays_in disks first now was.same was.disk honest s is) (was.disk.honesty.0 honest)
          (same_live disks first now was.same was.disk piece (piece_of _ (IsTold (map_now s) (failures first.disk) (failures now.disk)) ids rest piece left c.loop-piece.whole (contents c.args.writer.now) (contents c.loop-piece.writer) so_far step.1.0 live))));
      meant = λ live. piece_meant first.store now.store (failures first.disk) (failures now.disk) (failures c.print_piece.new.core.disk) was.disk.failures c.in_ok-read.ensures.disk.failures (store_read first now was.same) c.loop-piece.piece-iterator.size ids rest piece left c.loop-piece.whole c.in_ok-read.read (contents c.args.writer.now) (contents c.loop-piece.writer) (contents c.print_piece.new.writer)
          was.size live (was.meant live) step.1.0 step.1.1 step.1.2 c.in_ok-read.ensures.meant;
    }

pub returns-clause-script : goal.returns-clause-script
returns-clause-script g c s is honest live =
    let contents = g.W.Write.contents in
    let x = g.D.PageDisk.failure_count c.args.core.now.disk in
    let y = g.D.PageDisk.failure_count c.loop-piece.core.disk in
    script_read (map_now s) x y c.args.ids.now c.loop-piece.whole (contents c.args.writer.now) (contents c.flush.new.self)
    (all_printed (IsTold (map_now s) x y) c.args.ids.now c.loop-piece.piece-iterator.rest.now c.loop-piece.whole (contents c.args.writer.now) (contents c.loop-piece.writer) (contents c.flush.new.self)
    (c.loop-piece.invariant.lines s is honest live) c.in-None.ensures.steps.1.0 c.in_ok-flush.ensures.bytes)

pub returns-clause-meant : goal.returns-clause-meant
returns-clause-meant g c live =
    let contents = g.W.Write.contents in
    let failures = g.D.PageDisk.failure_count in
    all_printed (IsMeantOf c.args.core.now.store (failures c.args.core.now.disk) (failures c.loop-piece.core.disk)) c.args.ids.now c.loop-piece.piece-iterator.rest.now c.loop-piece.whole (contents c.args.writer.now) (contents c.loop-piece.writer) (contents c.flush.new.self)
    (c.loop-piece.invariant.meant live) c.in-None.ensures.steps.1.0 c.in_ok-flush.ensures.bytes
