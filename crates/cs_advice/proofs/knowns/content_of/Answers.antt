use Rattle.std.proofs.Common.{ℕ}
use Rattle.cs_disk.specs.Disk.{Image}
use Rattle.cs_advice.specs.Knowns.{IsContentOf}
use Rattle.cs_advice.proofs.Knowing.{read_before}
use Rattle.cs_advice.proofs.knowns.content_of.Goals as goal

pub returns-in_default-clause-content : goal.returns-in_default-clause-content
returns-in_default-clause-content g c = λ h.
    let reads = c.two_stores.ensures.disk in
    read_before g.D.PageDisk (λ (pages : ℕ) (image : Image). IsContentOf pages image c.content_of_one.result) c.args.disk.now c.two_stores.new.disk reads h (c.content_of_one.ensures.content (reads.honesty.0 h))
