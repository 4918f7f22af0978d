use Rattle.cs_index.proofs.Cases.{merged_exactly, table_exactly, writes_exactly}
use Rattle.cs_index.proofs.index_laws.stages_without_sizes.Goals as goal

pub returns : goal.returns
returns c = record {
  table = λ s t x y g h v commands before some few. table_exactly s x g v commands t y h before some few;
  merged = λ s t x y g h v commands before many. merged_exactly s x g v commands t y h before many;
  writes = λ S s entries before. writes_exactly S s before entries;
}
