use Rattle.std.proofs.Common.{map}
use Rattle.cs_index.specs.State.{id_number, named_entry}
use Rattle.cs_index.proofs.Merging.{start_here, start_there}
use Rattle.cs_index.proofs.stored_runs.skip.Goals as goal

pub returns-then-is_at : goal.returns-then-is_at
returns-then-is_at c =
    let found = c.if-is_at.ensures in
    start_there (map named_entry c.args.entries.now) c.args.k (id_number c.args.id) found.0 c.requires.ascending c.requires.place found.1 found.2

pub returns-else-is_at : goal.returns-else-is_at
returns-else-is_at c = start_here (map named_entry c.args.entries.now) c.args.k (id_number c.args.id) c.requires.ascending c.requires.place c.if-is_at.ensures
