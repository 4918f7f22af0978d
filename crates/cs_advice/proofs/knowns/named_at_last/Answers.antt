use Rattle.cs_advice.proofs.Knowing.{last_names}
use Rattle.cs_advice.proofs.knowns.named_at_last.Goals as goal

pub returns-in-Some : goal.returns-in-Some
returns-in-Some c =
    let named = c.in-Some.named in
    last_names c.args.number c.args.bytes.now c.in-Ok.superblock named.format named.pages c.saturating_sub.result c.if-saturating_sub-number.true c.saturating_sub.ensures c.in-Ok.ensures.number c.in-Ok.ensures.spelled c.in-Some.ensures
