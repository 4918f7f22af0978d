use Rattle.std.proofs.Common.{◌∙◌, ℕ, List, Some, ap, subst, sym}
use Rattle.cs_index.specs.State.{id_number}
use Rattle.law_machine.specs.Element.{Bytes}
use Rattle.law_machine.specs.State.{changed}
use Rattle.cs_store.specs.Errors.{IsPutRefusal}
use Rattle.cs_tools.specs.Copies.{over}
use Rattle.cs_tools.proofs.Copying.{has_agreed, put_may, put_over}
use Rattle.cs_tools.proofs.copy_command.put_one.Goals as goal

pub returns-in-Ok-put_within-clause-map : goal.returns-in-Ok-put_within-clause-map
returns-in-Ok-put_within-clause-map g c = λ has. (_, c.in-Ok-put_within.ensures.map has.0 has.1)

pub returns-in-Ok-put_within-clause-put : goal.returns-in-Ok-put_within-clause-put
returns-in-Ok-put_within-clause-put g c = λ m n has_m has_n h.
    let number = id_number c.args.id in
    let bytes = c.deref.result.now in
    has_agreed c.put_within.new.self (over n m number) (changed n (number, Some bytes))
    (put_over n m number bytes (c.in-Ok.ensures.bytes m has_m h ∙ ap (λ (xs : List ℕ). Some (Bytes xs)) (sym c.deref.ensures.value)))
    (c.in-Ok-put_within.ensures.map n has_n)

pub returns-clause-whole : goal.returns-clause-whole
returns-clause-whole g c = λ m has h there. subst IsPutRefusal (sym c.refusal.ensures) (put_may c.in-Err-put_within.error)

pub returns-clause-ends : goal.returns-clause-ends
returns-clause-ends g c = subst IsPutRefusal (sym c.refusal.ensures) (put_may c.in-Err-put_within.error)
