use Rattle.std.proofs.Common.{subst, sym}
use Rattle.cs_chunk.specs.Reads.{IsNoAnswer}
use Rattle.cs_index.specs.State.{id_number}
use Rattle.cs_store.specs.Errors.{IsGetRefusal, get_refusal}
use Rattle.cs_tools.proofs.Copying.{bytes_found, bytes_got, get_may}
use Rattle.cs_tools.proofs.copy_command.read_one.Goals as goal

pub returns-in-Ok-Some-clause-bytes : goal.returns-in-Ok-Some-clause-bytes
returns-in-Ok-Some-clause-bytes g c = λ m has h. rw c.in-Ok-Some.field-0-is at (c.in-Ok-Some.ensures.answer m has h)

pub returns-in-Ok-None-clause-whole : goal.returns-in-Ok-None-clause-whole
returns-in-Ok-None-clause-whole g c = λ m has h there. absurd (bytes_found m (id_number c.args.id) there (rw c.in-Ok-None.field-0-is at (c.in-Ok-None.ensures.answer m has h)))

pub returns-in-Err-clause-whole : goal.returns-in-Err-clause-whole
returns-in-Err-clause-whole g c = λ m has h there.
    let number = id_number c.args.id in
    subst IsNoAnswer (sym c.refusal.ensures) (bytes_got m number (get_refusal c.in-Err.error) there (c.in-Err.ensures.answer m has h))

pub returns-in-Err-clause-ends : goal.returns-in-Err-clause-ends
returns-in-Err-clause-ends g c = subst IsGetRefusal (sym c.refusal.ensures) (get_may c.in-Err.error)
