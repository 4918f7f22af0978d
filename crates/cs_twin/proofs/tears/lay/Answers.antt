use Rattle.std.proofs.Common.{ap, arith}
use Rattle.cs_disk.specs.Memory.{memory_state}
use Rattle.cs_twin.proofs.Becoming.{laid_kept, laid_part, laid_past}
use Rattle.cs_twin.specs.Tears.{after_fate, after_sectors, spliced}
use Rattle.cs_twin.proofs.tears.lay.Goals as goal

pub returns-then-write-pages-clause-laid : goal.returns-then-write-pages-clause-laid
returns-then-write-pages-clause-laid c = laid_past (memory_state c.args.disk.now) c.args.write.now c.args.fate (omega (arith, c.pages.ensures, c.if-write-pages.true))

pub returns-in-Kept-clause-laid : goal.returns-in-Kept-clause-laid
returns-in-Kept-clause-laid c = laid_kept c.write.result (memory_state c.args.disk.now) (memory_state c.write.new.self) c.args.write.now c.args.fate c.in-Kept.is (c.write.ensures.ok tt)

pub returns-in_ok-read-in-Torn-clause-laid : goal.returns-in_ok-read-in-Torn-clause-laid
returns-in_ok-read-in-Torn-clause-laid c =
    laid_part c.write-in-Torn.result (memory_state c.args.disk.now) (memory_state c.read.new.self) (memory_state c.write-in-Torn.new.self) c.args.write.now c.args.fate (spliced c.in-Torn.from c.in-Torn.to c.args.write.now.1) c.read.new.buffer c.splice.new.page
    (λ image. ap (after_fate image c.args.write.now) c.in-Torn.is) (ap memory_state c.read.ensures.unchanged) c.read.ensures.bytes c.splice.ensures (c.write-in-Torn.ensures.ok tt)

pub returns-in_ok-read-in-Sectors-clause-laid : goal.returns-in_ok-read-in-Sectors-clause-laid
returns-in_ok-read-in-Sectors-clause-laid c =
    laid_part c.write-in-Sectors.result (memory_state c.args.disk.now) (memory_state c.read-in-Sectors.new.self) (memory_state c.write-in-Sectors.new.self) c.args.write.now c.args.fate (after_sectors 0 c.in-Sectors.sectors c.args.write.now.1) c.read-in-Sectors.new.buffer c.lay_sectors.new.page
    (λ image. ap (after_fate image c.args.write.now) c.in-Sectors.is) (ap memory_state c.read-in-Sectors.ensures.unchanged) c.read-in-Sectors.ensures.bytes c.lay_sectors.ensures (c.write-in-Sectors.ensures.ok tt)
