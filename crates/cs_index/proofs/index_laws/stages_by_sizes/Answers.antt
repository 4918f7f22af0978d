use Rattle.cs_index.proofs.Cases.{reached_exactly, writes_reached}
use Rattle.cs_index.proofs.index_laws.stages_by_sizes.Goals as goal

pub returns : goal.returns
returns c = record {
  newest = λ s t x y g h v commands sized. reached_exactly s x g v commands t y h sized;
  writes = λ S s entries sized. writes_reached S s sized entries;
}
