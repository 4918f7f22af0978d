use Rattle.std.proofs.Common.{rules}
use Rattle.serde_json.specs.View.{view}
use Rattle.cs_check.specs.Faults.{Blames}
use Rattle.cs_check.specs.Documents.{IsDocument}
use Rattle.cs_check.proofs.ValueSteps.{blame_for}
use Rattle.cs_check.proofs.Said.{said, said_rounds}
use Rattle.cs_check.proofs.readings.schedule.Goals as goal

pub returns-in_err-rounds-clause-err : goal.returns-in_err-rounds-clause-err
returns-in_err-rounds-clause-err c =
    let d = view c.args.value.now in
    let blame : Blames c.in_err-rounds.field-0.0 (IsDocument d) =
    blame_for c.in_err-rounds.field-0.0 _ _ (λ p. said_rounds d c.args.letters.now (view c.in_ok-member.field-0.now) c.in_ok-member.ensures.ok (said d c.args.letters.now c.requires.member p)) c.in_err-rounds.ensures.err in
    search rules
