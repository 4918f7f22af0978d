use Rattle.cs_index.proofs.mergers.add_kept.Goals as goal

pub returns-then-without_deletions-clause-items : goal.returns-then-without_deletions-clause-items
returns-then-without_deletions-clause-items c = rw c.if-without_deletions.true c.add_live.ensures.items

pub returns-else-without_deletions-clause-items : goal.returns-else-without_deletions-clause-items
returns-else-without_deletions-clause-items c = rw c.if-without_deletions.false c.add_entry.ensures.items
