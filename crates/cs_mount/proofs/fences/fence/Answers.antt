use Rattle.cs_mount.proofs.fences.fence.Goals as goal

pub returns-in-Ok-clause-fenced : goal.returns-in-Ok-clause-fenced
returns-in-Ok-clause-fenced g c = rw (← c.into_disk-disk.ensures) c.in-Ok.ensures.fenced

pub returns-in-Ok-clause-filled : goal.returns-in-Ok-clause-filled
returns-in-Ok-clause-filled g c = rw (← c.into_disk-disk.ensures) c.in-Ok.ensures.filled

pub returns-in-Ok-clause-untouched : goal.returns-in-Ok-clause-untouched
returns-in-Ok-clause-untouched g c = rw (← c.into_disk-disk.ensures) c.in-Ok.ensures.untouched

pub returns-in-Ok-clause-durable : goal.returns-in-Ok-clause-durable
returns-in-Ok-clause-durable g c = rw (← c.into_disk-disk.ensures) c.in-Ok.ensures.durable

pub returns-in-Ok-clause-shown : goal.returns-in-Ok-clause-shown
returns-in-Ok-clause-shown g c = rw (← c.into_disk-disk.ensures) c.fence.ensures.shown

pub returns-in-Ok-clause-crash : goal.returns-in-Ok-clause-crash
returns-in-Ok-clause-crash g c = rw (← c.into_disk-disk.ensures) c.fence.ensures.crash

pub returns-in-Ok-clause-honest : goal.returns-in-Ok-clause-honest
returns-in-Ok-clause-honest g c = rw (← c.into_disk-disk.ensures) c.fence.ensures.honest

pub returns-in-Err-clause-shown : goal.returns-in-Err-clause-shown
returns-in-Err-clause-shown g c = rw (← c.into_disk-disk.ensures) c.fence.ensures.shown

pub returns-in-Err-clause-crash : goal.returns-in-Err-clause-crash
returns-in-Err-clause-crash g c = rw (← c.into_disk-disk.ensures) c.fence.ensures.crash

pub returns-in-Err-clause-honest : goal.returns-in-Err-clause-honest
returns-in-Err-clause-honest g c = rw (← c.into_disk-disk.ensures) c.fence.ensures.honest

pub returns-in-Err-clause-unrefused : goal.returns-in-Err-clause-unrefused
returns-in-Err-clause-unrefused g c = rw (← c.into_disk-disk.ensures) c.fence.ensures.refusals

pub returns-in-Ok-clause-known : goal.returns-in-Ok-clause-known
returns-in-Ok-clause-known g c = rw (← c.into_disk-disk.ensures) c.in-Ok.ensures.known

pub returns-in-Ok-clause-sound : goal.returns-in-Ok-clause-sound
returns-in-Ok-clause-sound g c = rw (← c.into_disk-disk.ensures) c.in-Ok.ensures.sound
