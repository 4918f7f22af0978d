use Rattle.cs_reclaim.proofs.Keeping.{keeps_every_shard}
use Rattle.cs_reclaim.proofs.RetireKeeps.{mark_keeps, mark_reads, retire_keeps}
use Rattle.cs_reclaim.proofs.sweep_laws.a_sweep_keeps_every_shard.Goals as goal

pub returns : goal.returns
returns c = record { moved = keeps_every_shard; retired = retire_keeps; marked = mark_keeps; read = mark_reads }
