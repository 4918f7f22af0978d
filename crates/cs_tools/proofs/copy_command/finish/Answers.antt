use Rattle.std.proofs.Common.{◌∙◌, subst, sym}
use Rattle.cs_store.specs.Errors.{IsPutRefusal}
use Rattle.cs_tools.proofs.Copying.{sync_may}
use Rattle.cs_tools.proofs.copy_command.finish.Goals as goal

pub returns-in-Ok-clause-map : goal.returns-in-Ok-clause-map
returns-in-Ok-clause-map g c = λ has. (has.0, c.sync.ensures.map has.0 has.1)

pub returns-in-Err-clause-map : goal.returns-in-Err-clause-map
returns-in-Err-clause-map g c = λ has. (has.0, c.sync.ensures.map has.0 has.1)

pub returns-in-Ok-clause-persistent : goal.returns-in-Ok-clause-persistent
returns-in-Ok-clause-persistent g c = λ h. sym c.in-Ok.ensures.done.1 ∙ c.in-Ok.ensures.all h

pub returns-in-Err-clause-whole : goal.returns-in-Err-clause-whole
returns-in-Err-clause-whole g c = subst IsPutRefusal (sym c.refusal.ensures) (sync_may c.in-Err.error)

pub returns-in-Err-clause-ends : goal.returns-in-Err-clause-ends
returns-in-Err-clause-ends g c = subst IsPutRefusal (sym c.refusal.ensures) (sync_may c.in-Err.error)
