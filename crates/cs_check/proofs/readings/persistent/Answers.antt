use Rattle.std.proofs.Common.{◌∙◌, Some, ap, refl, inr, arith}
use Rattle.std.specs.Prelude.{codes}
use Rattle.serde_json.specs.View.{view}
use Rattle.cs_check.specs.Documents.{HasMember, numbers_data}
use Rattle.cs_check.proofs.Said.{said, said_count}
use Rattle.cs_check.proofs.readings.persistent.Goals as goal

pub returns-then-len-letters-clause-err : goal.returns-then-len-letters-clause-err
returns-then-len-letters-clause-err c =
    let d = view c.args.value.now in
    let versions = c.in_ok-versions.versions.items in
    let member : HasMember d (codes "persistent") (numbers_data versions) = c.in_ok-member.ensures.ok ∙ ap Some c.in_ok-versions.ensures.ok.1 in
    inr (refl, λ p. absurd (omega (arith, said_count d c.args.letters.now versions member (said d c.args.letters.now c.requires.member p))))
