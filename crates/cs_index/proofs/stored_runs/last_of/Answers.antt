use Rattle.std.proofs.Common.{◌≡◌, ◌++◌, ◌∙◌, Some, map, sym}
use Rattle.std.specs.Prelude.{option_copied, option_map}
use Rattle.cs_frame.specs.Formats.{place_of}
use Rattle.cs_index.specs.State.{id_number, named_entry, newest_first}
use Rattle.cs_index.proofs.Newest.{lookup_first, lookup_second}
use Rattle.cs_index.proofs.Whole.{short_found_in, short_some}
use Rattle.law_machine.specs.Index.{entries_of, lookup}
use Rattle.cs_index.proofs.stored_runs.last_of.Goals as goal
use Rattle.cs_index.proofs.stored_runs.last_of.Goals.{In-Some, After-find_in_runs}

in_table : (c : In-Some) → Some (map place_of c.in-Some.locators.now) ≡ lookup (id_number c.args.id) (map named_entry c.args.table.now ++ entries_of (newest_first c.args.runs.now))
in_table c = sym (lookup_first (id_number c.args.id) (map named_entry c.args.table.now) (entries_of (newest_first c.args.runs.now)) (map place_of c.in-Some.locators.now) (sym c.in-Some.ensures))

in_runs : (c : After-find_in_runs) → option_map (map place_of) (option_copied c.find_in_runs.result) ≡ lookup (id_number c.args.id) (map named_entry c.args.table.now ++ entries_of (newest_first c.args.runs.now))
in_runs c = c.find_in_runs.ensures ∙ sym (lookup_second (id_number c.args.id) (map named_entry c.args.table.now) (entries_of (newest_first c.args.runs.now)) (sym c.in-None.ensures))

pub returns-in-Some-clause-last : goal.returns-in-Some-clause-last
returns-in-Some-clause-last c = in_table (goal.at.returns-in-Some-clause-last c).In-Some

pub returns-in-None-clause-last : goal.returns-in-None-clause-last
returns-in-None-clause-last c = in_runs (goal.at.returns-in-None-clause-last c).After-find_in_runs

pub returns-in-Some-clause-short : goal.returns-in-Some-clause-short
returns-in-Some-clause-short c =
    short_found_in (map named_entry c.args.table.now) (newest_first c.args.runs.now) (id_number c.args.id) c.in-Some.locators.now c.requires.short c.requires.stored
    (sym (in_table (goal.at.returns-in-Some-clause-short c).In-Some))

pub returns-in-None-clause-short : goal.returns-in-None-clause-short
returns-in-None-clause-short c =
    short_some (map named_entry c.args.table.now) (newest_first c.args.runs.now) (id_number c.args.id) c.find_in_runs.result c.requires.short c.requires.stored
    (in_runs (goal.at.returns-in-None-clause-short c).After-find_in_runs)
