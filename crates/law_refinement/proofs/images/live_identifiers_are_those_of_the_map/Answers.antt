use Rattle.law_refinement.proofs.images.live_identifiers_are_those_of_the_map.Goals as goal
use Rattle.cs_reader.proofs.OneByOne.{live_count, live_each}

pub returns : goal.returns
returns c = record {
  each = λ S F img n m found id. live_each S F img n m found id;
  count = λ S F img n m found count. live_count S F img n m found count;
}
