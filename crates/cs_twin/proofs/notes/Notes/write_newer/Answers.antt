use Rattle.cs_twin.proofs.Fits.{goes_below, goes_below_ok}
use Rattle.cs_twin.proofs.Writing.{shows_either, shows_ok}
use Rattle.cs_twin.proofs.notes.Notes.write_newer.Goals as goal

pub returns-in-Read-clause-ok : goal.returns-in-Read-clause-ok
returns-in-Read-clause-ok g c = λ h x at.
    shows_ok c.write_half.result (g.R.PageRules.version c.args.rules.now) c.args.pairs.now (g.D.PageDisk.page_count c.args.disk.now) (g.D.PageDisk.state c.args.disk.now) (g.D.PageDisk.state c.refresh.new.disk) (g.D.PageDisk.state c.write_half.new.disk) c.args.k x _ c.args.bytes.now
    c.requires.pairs at (c.refresh.ensures.disk.same h) (c.write_half.ensures.whole x at) (c.write_half.ensures.ok (c.refresh.ensures.disk.honesty.0 h) x at)

pub returns-in-Read-clause-fault : goal.returns-in-Read-clause-fault
returns-in-Read-clause-fault g c = λ h x at.
    shows_either (g.R.PageRules.version c.args.rules.now) c.args.pairs.now (g.D.PageDisk.page_count c.args.disk.now) (g.D.PageDisk.state c.args.disk.now) (g.D.PageDisk.state c.refresh.new.disk) (g.D.PageDisk.state c.write_half.new.disk) c.args.k x _ c.args.bytes.now
    c.requires.pairs at (c.refresh.ensures.disk.same h) (c.write_half.ensures.fault (c.refresh.ensures.disk.honesty.0 h) x at)

pub returns-in-Read-clause-below : goal.returns-in-Read-clause-below
returns-in-Read-clause-below g c = λ h x at.
    goes_below (g.R.PageRules.version c.args.rules.now) x _ c.args.bytes.now (g.D.PageDisk.state c.args.disk.now) (g.D.PageDisk.state c.refresh.new.disk) (g.D.PageDisk.state c.write_half.new.disk) (c.refresh.ensures.disk.same h) (c.write_half.ensures.fault (c.refresh.ensures.disk.honesty.0 h) x at)

pub returns-in-Read-clause-below_ok : goal.returns-in-Read-clause-below_ok
returns-in-Read-clause-below_ok g c = λ h x at.
    goes_below_ok c.write_half.result x _ c.args.bytes.now (g.D.PageDisk.state c.args.disk.now) (g.D.PageDisk.state c.refresh.new.disk) (g.D.PageDisk.state c.write_half.new.disk) (c.refresh.ensures.disk.same h) (c.write_half.ensures.ok (c.refresh.ensures.disk.honesty.0 h) x at)
