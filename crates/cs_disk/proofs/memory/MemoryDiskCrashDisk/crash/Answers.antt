use Rattle.std.proofs.Common.{◌≡◌, length, sym, subst}
use Rattle.cs_disk.specs.Disk.{IsBytes, State}
use Rattle.cs_disk.proofs.Whole.{BytePages, Pages, kept_whole}
use Rattle.cs_disk.proofs.memory.MemoryDiskCrashDisk.crash.Goals as goal

pub invariant_of-self-clause-durable : goal.invariant_of-self-clause-durable
invariant_of-self-clause-durable c =
    subst (λ (s : State). Pages 4096 s.durable) (sym c.keep.ensures.state) (kept_whole (λ bytes. length bytes ≡ 4096) _ c.args.mask.now _ c.args.self.durable c.args.self.volatile)

pub invariant_of-self-clause-durable_bytes : goal.invariant_of-self-clause-durable_bytes
invariant_of-self-clause-durable_bytes c =
    subst (λ (s : State). BytePages s.durable) (sym c.keep.ensures.state) (kept_whole IsBytes _ c.args.mask.now _ c.args.self.durable_bytes c.args.self.volatile_bytes)
