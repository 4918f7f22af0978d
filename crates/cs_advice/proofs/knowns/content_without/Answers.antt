use Rattle.std.proofs.Common.{ℕ, arith, refl}
use Rattle.cs_disk.proofs.OnlyRead.{reads_on}
use Rattle.cs_disk.specs.Disk.{Image, page}
use Rattle.cs_advice.specs.Knowns.{IsRootPage}
use Rattle.cs_advice.proofs.Knowing.{read_before}
use Rattle.cs_advice.proofs.knowns.content_without.Goals as goal

pub returns-then-is_root_on-clause-content : goal.returns-then-is_root_on-clause-content
returns-then-is_root_on-clause-content g c = λ h some.
    let reads = c.is_superseded.ensures.disk in (
      omega (arith, c.if-pages-le-ROOT.false, c.pages.ensures),
      read_before g.D.PageDisk (λ (pages : ℕ) (image : Image). IsRootPage (page image 1)) c.args.disk.now c.is_superseded.new.disk reads h (c.if-is_root_on.ensures.root (reads.honesty.0 h) refl),
    )

pub returns-then-is_root_on-clause-disk : goal.returns-then-is_root_on-clause-disk
returns-then-is_root_on-clause-disk g c = reads_on g.D.PageDisk c.args.disk.now c.is_superseded.new.disk c.is_root_on.new.disk c.is_superseded.ensures.disk c.is_root_on.ensures.disk
