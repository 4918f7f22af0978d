use Rattle.std.proofs.Common.{inl, inr, refl}
use Rattle.cs_writeback.proofs.Runs.{ran_then}
use Rattle.cs_store.proofs.Reclaiming.{read_ran}
use Rattle.cs_store.proofs.Refusing.{look_is, put_is}
use Rattle.cs_store.proofs.Reserving.{by_size}
use Rattle.cs_store.proofs.puts.put_by.Goals as goal

pub returns-in-Ok-put_ready-clause-ran : goal.returns-in-Ok-put_ready-clause-ran
returns-in-Ok-put_ready-clause-ran g c = ran_then g.D.PageDisk c.args.core.now c.heed.new.core c.put_ready.new.core
    (read_ran g.D.PageDisk c.args.core.now c.heed.new.core c.heed.ensures.reads c.progress.ensures.left (λ honest image since. g.met.D.PageDisk.only_now c.args.core.now.disk image honest since))
    c.put_ready.ensures.ran

pub returns-in-Err-put_ready-clause-refused : goal.returns-in-Err-put_ready-clause-refused
returns-in-Err-put_ready-clause-refused g c = (c.heed.new.core, c.heed.ensures.reads, inr c.in-Err-put_ready.ensures.refused)

pub returns-in-Err-put_ready-clause-refusals : goal.returns-in-Err-put_ready-clause-refusals
returns-in-Err-put_ready-clause-refusals g c = put_is c.args.id c.args.bytes.now c.in-Err-put_ready.refusal c.in-Err-put_ready.ensures.refusals

pub returns-in-Err-put_ready-clause-full : goal.returns-in-Err-put_ready-clause-full
returns-in-Err-put_ready-clause-full g c = λ honest full. c.in-Err-put_ready.ensures.full (c.heed.ensures.reads.1.honesty.0 honest) full

pub returns-in-Err-put_ready-clause-ran : goal.returns-in-Err-put_ready-clause-ran
returns-in-Err-put_ready-clause-ran g c = ran_then g.D.PageDisk c.args.core.now c.heed.new.core c.put_ready.new.core
    (read_ran g.D.PageDisk c.args.core.now c.heed.new.core c.heed.ensures.reads c.progress.ensures.left (λ honest image since. g.met.D.PageDisk.only_now c.args.core.now.disk image honest since))
    c.put_ready.ensures.ran

pub returns-in-Err-clause-refused : goal.returns-in-Err-clause-refused
returns-in-Err-clause-refused g c = (c.heed.new.core, c.heed.ensures.reads, by_size g.D.PageDisk c.args.reserve c.args.id c.args.bytes.now c.in-Err.refusal c.args.core.now c.heed.new.core c.in-Err.ensures.refusals c.in-Err.ensures.reserved)

pub returns-in-Err-clause-refusals : goal.returns-in-Err-clause-refusals
returns-in-Err-clause-refusals g c = look_is _ c.in-Err.refusal c.in-Err.ensures.refusals

pub returns-in-Err-clause-reserved : goal.returns-in-Err-clause-reserved
returns-in-Err-clause-reserved g c = λ is. (c.in-Err.ensures.reserved is, c.heed.ensures.reads)

pub returns-in-Err-clause-ran : goal.returns-in-Err-clause-ran
returns-in-Err-clause-ran g c =
    read_ran g.D.PageDisk c.args.core.now c.heed.new.core c.heed.ensures.reads c.progress.ensures.left (λ honest image since. g.met.D.PageDisk.only_now c.args.core.now.disk image honest since)
