use Rattle.std.proofs.Common.{◌≡◌, length, sym, subst}
use Rattle.cs_disk.specs.Disk.{IsBytes, State}
use Rattle.cs_disk.proofs.Calls.{elapses_call, one_call}
use Rattle.cs_disk.proofs.Whole.{BytePages, Pages, applied_whole}
use Rattle.cs_disk.proofs.memory.MemoryDiskPageDisk.flush.Goals as goal

pub returns-clause-time : goal.returns-clause-time
returns-clause-time c = elapses_call _ _ _ _ c.note.ensures

pub returns-clause-count : goal.returns-clause-count
returns-clause-count c = one_call _ _ _ c.note.ensures

pub invariant_of-self-clause-durable : goal.invariant_of-self-clause-durable
invariant_of-self-clause-durable c =
    subst (λ (s : State). Pages 4096 s.durable) (sym c.make_durable.ensures.state) (applied_whole (λ bytes. length bytes ≡ 4096) _ _ c.args.self.now.durable c.args.self.now.volatile)

pub invariant_of-self-clause-durable_bytes : goal.invariant_of-self-clause-durable_bytes
invariant_of-self-clause-durable_bytes c =
    subst (λ (s : State). BytePages s.durable) (sym c.make_durable.ensures.state) (applied_whole IsBytes _ _ c.args.self.now.durable_bytes c.args.self.now.volatile_bytes)
