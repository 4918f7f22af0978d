use Rattle.std.proofs.Common.{◌≡◌, ◌∙◌, ◌++◌, List, MatchOption, ap, ap₂, arith, map, subst}
use Rattle.std.specs.Prelude.{option_map}
use Rattle.cs_frame.specs.declared.identifiers.ShardId.{ShardId}
use Rattle.cs_frame.specs.Formats.{place_of}
use Rattle.cs_frame.specs.Places.{Listed}
use Rattle.cs_index.specs.contracts.indexes.Index.{the_view}
use Rattle.cs_index.specs.declared.stored_runs.StoredRun.{StoredRun}
use Rattle.cs_index.specs.Live.{NoneUpTo}
use Rattle.cs_index.specs.Read.{Reading}
use Rattle.cs_index.specs.State.{id_number, index_of, named_entry, newest_first}
use Rattle.cs_index.proofs.Whole.{length-newest}
use Rattle.law_machine.specs.Element.{Entry}
use Rattle.law_machine.specs.Index.{FirstLive, NothingLive, entries_of}
use Rattle.cs_index.proofs.indexes.Index.first_live.Goals as goal
use Rattle.cs_index.proofs.indexes.Index.first_live.Goals.{After-entries_after-entries}

pub entries_after-entries-requires : goal.entries_after-entries-requires
entries_after-entries-requires c =
    let whole = c.self.invariant.whole in
    rw (c.deref.ensures.value) (rw (c.deref-2.ensures.value) (record {
      ascending = whole.ascending;
      short = whole.short;
      stored = whole.runs;
      few = omega (arith, whole.few, length-newest c.self.inside.runs.items);
    }))

-- what is read is the whole index
index_is : (c : After-entries_after-entries) → c.entries_after-entries.result.index ≡ index_of (the_view c.self.inside)
index_is c =
    ap (λ (r : Reading). r.index) c.entries_after-entries.ensures
    ∙ ap₂ (λ (t : List (ShardId × Listed)) (runs : List StoredRun). map named_entry t ++ entries_of (newest_first runs)) c.deref.ensures.value c.deref-2.ensures.value

pub invariant_of-self : goal.invariant_of-self
invariant_of-self c =
    let was = c.self.invariant in
    record {
      whole = was.whole;
      ids = was.ids;
      count = was.count;
      lives = was.lives;
      weighs = was.weighs;
      counts = was.counts;
      small = was.small;
      fits = was.fits;
      clear = subst (λ (es : List Entry). NoneUpTo es (option_map id_number c.search-found.result.1) c.args.extent) (index_is (goal.at.invariant_of-self c).After-entries_after-entries) c.search-found.ensures.none;
    }

pub returns-clause-found : goal.returns-clause-found
returns-clause-found c =
    rw (← c.self.view_is) (subst (λ (es : List Entry). MatchOption c.search-found.result.0 (NothingLive es c.args.extent) (λ found. FirstLive es c.args.extent (id_number found.id) found.chunk (place_of found.place)))
    (index_is (goal.at.returns-clause-found c).After-entries_after-entries) c.search-found.ensures.found)
