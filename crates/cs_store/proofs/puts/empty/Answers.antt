use Rattle.std.proofs.Common.{inr, subst, sym}
use Rattle.cs_writeback.proofs.MadeRoom.{checkpoint_ran}
use Rattle.cs_writeback.proofs.Runs.{ran_then}
use Rattle.cs_store.specs.Errors.{IsDeleteRefusal}
use Rattle.cs_store.proofs.Filling.{left_full}
use Rattle.cs_store.proofs.Refusing.{room_by_checkpoint, room_by_sync}
use Rattle.cs_store.proofs.puts.empty.Goals as goal

pub returns-in-Ok-checkpoint-clause-ran : goal.returns-in-Ok-checkpoint-clause-ran
returns-in-Ok-checkpoint-clause-ran g c =
    let e = c.checkpoint.ensures in
    ran_then g.D.PageDisk c.args.core.now c.sync.new.core c.checkpoint.new.self c.sync.ensures.ran
    (checkpoint_ran g.D.PageDisk c.sync.new.core c.checkpoint.new.self c.checkpoint.result e.ok e.err e.crash)

pub returns-in-Err-checkpoint-clause-stays : goal.returns-in-Err-checkpoint-clause-stays
returns-in-Err-checkpoint-clause-stays g c =
    let e = c.in-Err-checkpoint.ensures.err in
    inr (c.sync.new.core, c.in-Err-checkpoint.refusal, c.in-Ok.ensures.done.0, e.0, e.1, c.told.ensures)

pub returns-in-Err-checkpoint-clause-full : goal.returns-in-Err-checkpoint-clause-full
returns-in-Err-checkpoint-clause-full g c =
    let e = c.in-Err-checkpoint.ensures.err in
    left_full g.D.PageDisk c.args.core.now c.sync.new.core c.checkpoint.new.self c.in-Err-checkpoint.refusal c.told.result c.in-Ok.ensures.done.0 e.0 e.1 c.told.ensures

pub returns-in-Err-clause-refusals : goal.returns-in-Err-clause-refusals
returns-in-Err-clause-refusals g c = room_by_sync c.in-Err.refusal c.in-Err.ensures.refusals

pub returns-in-Err-checkpoint-clause-refusals : goal.returns-in-Err-checkpoint-clause-refusals
returns-in-Err-checkpoint-clause-refusals g c =
    subst IsDeleteRefusal (sym c.told.ensures) (room_by_checkpoint c.sync.new.core c.in-Err-checkpoint.refusal c.in-Err-checkpoint.ensures.err.0)
