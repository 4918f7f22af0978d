use Rattle.std.proofs.Common.{Err, ap, inl, refl}
use Rattle.cs_refusal.specs.declared.refusals.Refusal.{Refusal}
use Rattle.cs_inspect.proofs.Reading.{fault_pages, told_pages}
use Rattle.cs_inspect.proofs.surveys.pages_at.Goals as goal

pub returns-in-Ok-clause-read : goal.returns-in-Ok-clause-read
returns-in-Ok-clause-read g c = λ honest view are.
    inl (told_pages c.args.core.now.store.extents view c.args.place c.frame_pages.result c.in-Ok.count c.frame_pages.ensures (c.in-Ok.ensures.told honest view are) (c.in-Ok.ensures.header honest view are))

pub returns-else-is_memory-clause-read : goal.returns-else-is_memory-clause-read
returns-else-is_memory-clause-read g c = λ honest view are.
    fault_pages c.args.core.now.store.extents view c.args.place _ refl (g.D.PageDisk.failure_count c.args.core.now.disk) (g.D.PageDisk.failure_count c.read_length.new.self.disk) c.in-Err.refusal
    c.if-is_memory.ensures (λ device. c.in-Err.ensures.cause.failed (ap (λ (r : Refusal). Err r) device)) (c.in-Err.ensures.header honest view are)
