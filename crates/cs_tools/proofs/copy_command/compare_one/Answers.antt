use Rattle.cs_tools.proofs.Copying.{ids_differ}
use Rattle.cs_tools.proofs.copy_command.compare_one.Goals as goal

pub returns-then-ne-clause-whole : goal.returns-then-ne-clause-whole
returns-then-ne-clause-whole g c = λ m has_from has_to h k there same.
    let id = c.bytes-id in
    let copied = c.bytes-copied in
    ids_differ c.args.copied c.args.id copied.result id.result c.ne.result copied.ensures.value copied.ensures.size copied.ensures.bytes id.ensures.value id.ensures.size id.ensures.bytes c.ne.ensures c.if-ne.true same

pub returns-clause-whole : goal.returns-clause-whole
returns-clause-whole g c = λ m has_from has_to h k there same. c.compare_bytes.ensures.whole m has_from has_to h k there
