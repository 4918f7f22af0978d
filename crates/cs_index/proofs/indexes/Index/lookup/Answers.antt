use Rattle.std.proofs.Common.{map}
use Rattle.std.specs.Prelude.{option_copied, option_map}
use Rattle.cs_frame.specs.Formats.{place_of}
use Rattle.cs_index.specs.contracts.indexes.Index.{the_view}
use Rattle.cs_index.specs.State.{id_number}
use Rattle.cs_index.proofs.Whole.{last_in, marks_found, readable}
use Rattle.cs_index.proofs.indexes.Index.lookup.Goals as goal

pub last_of-requires : goal.last_of-requires
last_of-requires c =
    readable c.deref.result.now c.self.inside.table.entries.items c.deref-2.result.now c.self.inside.runs.items c.deref.ensures.value c.deref-2.ensures.value c.self.inside.format c.self.inside.limit c.self.inside.room c.self.invariant.whole

pub returns-clause-last : goal.returns-clause-last
returns-clause-last c =
    rw (← c.self.view_is) (last_in c.deref.result.now c.self.inside.table.entries.items c.deref-2.result.now c.self.inside.runs.items c.deref.ensures.value c.deref-2.ensures.value (id_number c.args.id) (option_map (map place_of) (option_copied c.last_of.result)) c.last_of.ensures.last)

pub returns-clause-marks : goal.returns-clause-marks
returns-clause-marks c =
    rw (← c.self.view_is) (marks_found (the_view c.self.inside) (id_number c.args.id) c.last_of.result c.self.invariant.whole
    (last_in c.deref.result.now c.self.inside.table.entries.items c.deref-2.result.now c.self.inside.runs.items c.deref.ensures.value c.deref-2.ensures.value (id_number c.args.id) (option_map (map place_of) (option_copied c.last_of.result)) c.last_of.ensures.last))
