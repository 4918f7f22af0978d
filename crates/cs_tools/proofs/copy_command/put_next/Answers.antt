use Rattle.cs_index.specs.State.{id_number}
use Rattle.cs_tools.specs.Copies.{over}
use Rattle.cs_advice.proofs.Appended.{whatever}
use Rattle.cs_tools.proofs.copy_command.put_next.Goals as goal

pub returns-in-Ok-clause-put : goal.returns-in-Ok-clause-put
returns-in-Ok-clause-put g c = λ m n has_m has_n h. whatever c.finish.result (c.finish.ensures.kept (over n m (id_number c.args.id)) (c.in-Ok.ensures.put m n has_m has_n h))
