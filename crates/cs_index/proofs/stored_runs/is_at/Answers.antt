use Rattle.std.proofs.Common.{map, get_or, arith}
use Rattle.std.proofs.lemmas.List.{length-map}
use Rattle.cs_index.specs.State.{id_number, named_entry}
use Rattle.cs_index.proofs.Sorted.{at_is, none_at, read_at}
use Rattle.cs_index.proofs.stored_runs.is_at.Goals as goal

pub returns-then-k-entries : goal.returns-then-k-entries
returns-then-k-entries c =
    at_is (map named_entry c.args.entries.now) c.args.k (id_number c.args.id) (named_entry (get_or c.args.entries.now c.args.k c.index-entries-k.result)) c.is_same.result
    (read_at named_entry c.args.entries.now c.args.k c.index-entries-k.result c.if-k-entries.true) c.is_same.ensures

pub returns-else-k-entries : goal.returns-else-k-entries
returns-else-k-entries c = λ x at is.
    none_at (map named_entry c.args.entries.now) c.args.k x (omega (arith, length-map c.args.entries.now named_entry, c.if-k-entries.false)) at
