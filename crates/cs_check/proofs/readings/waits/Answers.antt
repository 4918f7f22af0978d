use Rattle.std.proofs.Common.{rules}
use Rattle.serde_json.specs.View.{view}
use Rattle.cs_check.specs.Faults.{Blames}
use Rattle.cs_check.specs.Documents.{IsDocument}
use Rattle.cs_check.proofs.ValueSteps.{blame_for}
use Rattle.cs_check.proofs.Said.{said, said_entries}
use Rattle.cs_check.proofs.readings.waits.Goals as goal

pub returns-in_err-waiting-clause-err : goal.returns-in_err-waiting-clause-err
returns-in_err-waiting-clause-err c =
    let d = view c.args.value.now in
    let blame : Blames c.in_err-waiting.field-0.0 (IsDocument d) =
    blame_for c.in_err-waiting.field-0.0 _ _ (λ p. said_entries d c.args.letters.now (view c.in_ok-member.field-0.now) c.in_ok-member.ensures.ok (said d c.args.letters.now c.requires.member p)) c.in_err-waiting.ensures.err in
    search rules
