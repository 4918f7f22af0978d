use Rattle.std.proofs.Common.{◌++◌, sym}
use Rattle.cs_index.specs.State.{index_of}
use Rattle.law_machine.specs.Index.{entries_of}
use Rattle.law_refinement.proofs.events_refined.index_queries_agree.Goals as goal
use Rattle.law_refinement.proofs.Indexes.{as_heavy, as_heavy_with, as_many_named, first_live, looked_up, merged_run, none_too, nothing_live, table_run}

pub returns : goal.returns
returns c = record {
  lookups = λ i table runs is. looked_up i table runs is;
  named = λ i table runs is. as_many_named i table runs is;
  weight = λ weigh i table runs is. as_heavy i table runs is weigh;
  entered = λ weigh i table runs id chunks is. as_heavy_with i table runs is weigh id chunks;
  empty = λ i table runs is. (none_too i.table table is.lookups, none_too table i.table (λ id. sym (is.lookups id)));
  table_run = λ i table runs es is. (table_run i.table table is.lookups es, table_run table i.table (λ id. sym (is.lookups id)) es);
  merged_run = λ i table runs es is. (
    merged_run (index_of i) (table ++ entries_of runs) (looked_up i table runs is) es,
    merged_run (table ++ entries_of runs) (index_of i) (λ id. sym (looked_up i table runs is id)) es,
  );
  first = λ i table runs e id chunk l is. (
    first_live (index_of i) (table ++ entries_of runs) (looked_up i table runs is) e id chunk l,
    first_live (table ++ entries_of runs) (index_of i) (λ id. sym (looked_up i table runs is id)) e id chunk l,
  );
  nothing = λ i table runs e is. (
    nothing_live (index_of i) (table ++ entries_of runs) (looked_up i table runs is) e,
    nothing_live (table ++ entries_of runs) (index_of i) (λ id. sym (looked_up i table runs is id)) e,
  );
}
