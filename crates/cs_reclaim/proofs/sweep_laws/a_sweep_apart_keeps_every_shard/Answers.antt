use Rattle.cs_reclaim.proofs.KeepingApart.{copies_keep, copy_keeps, retire_apart_keeps, stage_keeps}
use Rattle.cs_reclaim.proofs.sweep_laws.a_sweep_apart_keeps_every_shard.Goals as goal

pub returns : goal.returns
returns c = record { copied = copy_keeps; copies = copies_keep; staged = stage_keeps; retired = retire_apart_keeps }
