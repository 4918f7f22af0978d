use Rattle.cs_mount.proofs.mount_options.mend.Goals as goal

pub returns-in-Ok-clause-whole : goal.returns-in-Ok-clause-whole
returns-in-Ok-clause-whole g c = rw (← c.into_disk-disk.ensures) c.in-Ok.ensures.whole

pub returns-in-Ok-clause-copied : goal.returns-in-Ok-clause-copied
returns-in-Ok-clause-copied g c = rw (← c.into_disk-disk.ensures) c.in-Ok.ensures.copied

pub returns-in-Ok-clause-untouched : goal.returns-in-Ok-clause-untouched
returns-in-Ok-clause-untouched g c = rw (← c.into_disk-disk.ensures) c.in-Ok.ensures.untouched

pub returns-in-Ok-clause-durable : goal.returns-in-Ok-clause-durable
returns-in-Ok-clause-durable g c = rw (← c.into_disk-disk.ensures) c.in-Ok.ensures.durable

pub returns-in-Ok-clause-shown : goal.returns-in-Ok-clause-shown
returns-in-Ok-clause-shown g c = rw (← c.into_disk-disk.ensures) c.repair_all.ensures.shown

pub returns-in-Ok-clause-crash : goal.returns-in-Ok-clause-crash
returns-in-Ok-clause-crash g c = rw (← c.into_disk-disk.ensures) c.repair_all.ensures.crash

pub returns-in-Ok-clause-honest : goal.returns-in-Ok-clause-honest
returns-in-Ok-clause-honest g c = rw (← c.into_disk-disk.ensures) c.repair_all.ensures.honest

pub returns-in-Err-clause-shown : goal.returns-in-Err-clause-shown
returns-in-Err-clause-shown g c = rw (← c.into_disk-disk.ensures) c.repair_all.ensures.shown

pub returns-in-Err-clause-crash : goal.returns-in-Err-clause-crash
returns-in-Err-clause-crash g c = rw (← c.into_disk-disk.ensures) c.repair_all.ensures.crash

pub returns-in-Err-clause-honest : goal.returns-in-Err-clause-honest
returns-in-Err-clause-honest g c = rw (← c.into_disk-disk.ensures) c.repair_all.ensures.honest

pub returns-in-Err-clause-unrefused : goal.returns-in-Err-clause-unrefused
returns-in-Err-clause-unrefused g c = rw (← c.into_disk-disk.ensures) c.repair_all.ensures.refusals
