use Rattle.std.proofs.Common.{refl, rules}
use Rattle.cs_disk.specs.Memory.{memory_state}
use Rattle.cs_mount.proofs.Blank.{blank_from, memory_alone}
use Rattle.cs_mount.proofs.mount_options.MountOptions.create_in_memory.Goals as goal

pub returns-in-Ok-create-clause-store : goal.returns-in-Ok-create-clause-store
returns-in-Ok-create-clause-store c = c.in-Ok-create.ensures.store tt

pub returns-in-Ok-create-clause-found : goal.returns-in-Ok-create-clause-found
returns-in-Ok-create-clause-found c = c.in-Ok-create.ensures.found tt

pub returns-in-Ok-create-clause-start : goal.returns-in-Ok-create-clause-start
returns-in-Ok-create-clause-start c = c.in-Ok-create.ensures.start tt

pub returns-in-Ok-create-clause-written : goal.returns-in-Ok-create-clause-written
returns-in-Ok-create-clause-written c = c.in-Ok-create.ensures.zeros tt (blank_from c.args.geometry (memory_state c.in-Ok.disk) (search rules) (search rules))

pub returns-clause-memory : goal.returns-clause-memory
returns-clause-memory c =
    let refused = c.in-Err.ensures in
    memory_alone c.args.geometry c.extents.ensures.geometry (memory_state c.in-Ok.disk) _ c.in-Err.refusal (blank_from c.args.geometry (memory_state c.in-Ok.disk) (search rules) (search rules)) refl
    refused.refusals refused.not_a_store (refused.occupied tt) (refused.cause tt)
