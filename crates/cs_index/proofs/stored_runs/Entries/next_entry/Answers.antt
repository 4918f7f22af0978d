use Rattle.std.proofs.Common.{◌≡◌, ◌∙◌, ◌++◌, ℕ, List, Option, Some, ap, map, subst, sym}
use Rattle.std.specs.Prelude.{option_copied, option_map}
use Rattle.std.proofs.lemmas.Option.{slice_get-map}
use Rattle.cs_frame.specs.declared.locators.Locator.{Locator}
use Rattle.cs_frame.specs.Formats.{place_of}
use Rattle.law_machine.specs.Element.{Entry}
use Rattle.law_machine.specs.Index.{entries_of}
use Rattle.cs_index.specs.Sorted.{first_of}
use Rattle.cs_index.specs.State.{IsNext, id_number, named_entry, newest_first}
use Rattle.cs_index.proofs.Merging.{next_at, next_join, runs_at_next, table_at_next}
use Rattle.cs_index.proofs.Whole.{short_found_in}
use Rattle.cs_index.proofs.stored_runs.Entries.next_entry.Goals as goal
use Rattle.cs_index.proofs.stored_runs.Entries.next_entry.Goals.{After-first_in_runs}

module _ (c : After-first_in_runs) where
  abbrev table : List Entry
  table = map named_entry c.self.inside.table.now

  abbrev after : Option ℕ
  after = option_map id_number c.self.inside.after

  -- the entry that comes next, if there is one
  comes : IsNext (table ++ entries_of (newest_first c.self.inside.runs.now)) after
      (first_of (option_map named_entry (option_copied c.entry_at.result)) (option_map named_entry (option_copied c.first_in_runs.result)))
  comes =
      next_join table (entries_of (newest_first c.self.inside.runs.now)) after (option_map named_entry (option_copied c.entry_at.result)) (option_map named_entry (option_copied c.first_in_runs.result))
      (next_at after c.self.inside.table_place table (option_map named_entry (option_copied c.entry_at.result)) c.self.invariant.readable.ascending c.self.invariant.in_table
      (slice_get-map named_entry c.self.inside.table.now c.self.inside.table_place ∙ ap (option_map named_entry) (sym c.entry_at.ensures)))
      (c.first_in_runs.ensures after c.self.invariant.in_runs)

  -- it is this one
  found : (o : Option Entry) → o ≡ first_of (option_map named_entry (option_copied c.entry_at.result)) (option_map named_entry (option_copied c.first_in_runs.result))
      → IsNext (table ++ entries_of (newest_first c.self.inside.runs.now)) after o
  found o is = subst (IsNext (table ++ entries_of (newest_first c.self.inside.runs.now)) after) (sym is) comes

pub returns-in_err-entry-clause-next : goal.returns-in_err-entry-clause-next
returns-in_err-entry-clause-next c = rw (c.from_residual.ensures) (rw (← c.self.view_is) (found (goal.at.returns-in_err-entry-clause-next c).After-first_in_runs _ c.in_err-entry.ensures))

pub skip-self-inside-requires-clause-place : goal.skip-self-inside-requires-clause-place
skip-self-inside-requires-clause-place c =
    table_at_next (map named_entry c.self.inside.table.now) c.self.inside.runs.now (option_map id_number c.self.inside.after) (named_entry c.in_ok-entry.entry.now)
    (found (goal.at.skip-self-inside-requires-clause-place c).After-first_in_runs (Some (named_entry c.in_ok-entry.entry.now)) c.in_ok-entry.ensures)
    c.self.inside.table_place c.self.invariant.readable.ascending c.self.invariant.in_table

pub skip_in_runs-requires-clause-places : goal.skip_in_runs-requires-clause-places
skip_in_runs-requires-clause-places c =
    runs_at_next (map named_entry c.self.inside.table.now) c.self.inside.runs.now (option_map id_number c.self.inside.after) (named_entry c.in_ok-entry.entry.now)
    (found (goal.at.skip_in_runs-requires-clause-places c).After-first_in_runs (Some (named_entry c.in_ok-entry.entry.now)) c.in_ok-entry.ensures)
    c.self.inside.run_places c.self.invariant.readable.stored c.self.invariant.in_runs

pub returns-clause-next : goal.returns-clause-next
returns-clause-next c =
    let next = found (goal.at.returns-clause-next c).After-first_in_runs (Some (named_entry c.in_ok-entry.entry.now)) c.in_ok-entry.ensures in
    rw (← c.self.view_is) (next.0, next.1 ∙ ap (λ (ls : List Locator). Some (map place_of ls)) (sym c.as_slice.ensures.value), next.2)

pub returns-clause-short : goal.returns-clause-short
returns-clause-short c =
    let next = found (goal.at.returns-clause-short c).After-first_in_runs (Some (named_entry c.in_ok-entry.entry.now)) c.in_ok-entry.ensures in
    short_found_in (map named_entry c.self.inside.table.now) (newest_first c.self.inside.runs.now) (id_number c.in_ok-entry.entry.now.0) c.as_slice.result.now c.self.invariant.readable.short c.self.invariant.readable.stored
    (next.1 ∙ ap (λ (ls : List Locator). Some (map place_of ls)) (sym c.as_slice.ensures.value))
