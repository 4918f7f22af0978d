use Rattle.std.proofs.Common.{◌≡◌, ℕ, List, Err, None, subst, sym}
use Rattle.std.specs.Prelude.{Option, option_and_then}
use Rattle.uuid.specs.Text.{parsed}
use Rattle.cs_options.proofs.IdSteps.{id_read}
use Rattle.cs_options.proofs.files.identity_of.Goals as goal

pub returns-in-Err-clause-refused : goal.returns-in-Err-clause-refused
returns-in-Err-clause-refused c =
    subst (λ (given : Option (List ℕ)). option_and_then parsed given ≡ None) c.in-Some.ensures
    (sym (id_read c.in-Some.text.now (Err c.in-Err.field-0) c.in-Err.ensures.ok c.in-Err.ensures.bytes))
