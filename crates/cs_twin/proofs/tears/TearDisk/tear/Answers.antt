use Rattle.std.proofs.Common.{◌∙◌}
use Rattle.cs_disk.specs.Memory.{memory_state}
use Rattle.cs_twin.proofs.Becoming.{fates_tear, torn_durable}
use Rattle.cs_twin.proofs.tears.TearDisk.tear.Goals as goal

pub returns-clause-durable : goal.returns-clause-durable
returns-clause-durable c =
    torn_durable (memory_state c.args.self.disk) (memory_state c.crash-disk.result) (memory_state c.lay_all.new.disk) (memory_state c.flush.new.self) c.deref.result.now c.len.result c.deref-2.result.now c.args.fates.now
    (c.crash-disk.ensures.state tt tt) (c.deref.ensures.value ∙ c.in_ok-none.ensures.items_if_clones_equal (λ y is. is)) (c.deref-2.ensures.value ∙ c.args.self.same) c.in_ok-lay_all.ensures.laid c.flush.ensures.ok

pub returns-clause-torn : goal.returns-clause-torn
returns-clause-torn c = λ V pairs none told.
    fates_tear V pairs (memory_state c.args.self.disk) c.args.fates.now (memory_state c.flush.new.self).durable
    (record { durable = c.args.self.disk.durable; volatile = c.args.self.disk.volatile; durable_bytes = c.args.self.disk.durable_bytes; volatile_bytes = c.args.self.disk.volatile_bytes }) c.requires
    (torn_durable (memory_state c.args.self.disk) (memory_state c.crash-disk.result) (memory_state c.lay_all.new.disk) (memory_state c.flush.new.self) c.deref.result.now c.len.result c.deref-2.result.now c.args.fates.now
    (c.crash-disk.ensures.state tt tt) (c.deref.ensures.value ∙ c.in_ok-none.ensures.items_if_clones_equal (λ y is. is)) (c.deref-2.ensures.value ∙ c.args.self.same) c.in_ok-lay_all.ensures.laid c.flush.ensures.ok) none told
