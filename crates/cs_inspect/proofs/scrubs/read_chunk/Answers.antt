use Rattle.cs_inspect.proofs.Crashing.{crash_still}
use Rattle.cs_inspect.proofs.scrubs.read_chunk.Goals as goal

pub returns-clause-crash : goal.returns-clause-crash
returns-clause-crash g c = λ honest.
    crash_still g.D.PageDisk c.args.core.now.disk c.read_place.new.core.disk _ c.read_place.ensures.disk honest (c.progress.ensures.left honest) (λ image since. g.met.D.PageDisk.only_now c.args.core.now.disk image honest since)
