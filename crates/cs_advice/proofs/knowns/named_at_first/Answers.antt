use Rattle.cs_advice.specs.Knowns.{IsFirstOf, Names}
use Rattle.cs_advice.proofs.Knowing.{first_names, where_some}
use Rattle.cs_advice.proofs.knowns.named_at_first.Goals as goal

pub returns-in-Ok : goal.returns-in-Ok
returns-in-Ok c =
    let it = c.in-Ok.superblock in
    let bytes = c.args.bytes.now in
    where_some (λ named. IsFirstOf it named.format named.pages) (λ named. Names 0 bytes named.format named.pages) c.named_by.result (λ named is. first_names bytes it named.format named.pages c.in-Ok.ensures.spelled is) c.named_by.ensures
