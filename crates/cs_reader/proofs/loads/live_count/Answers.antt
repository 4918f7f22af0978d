use Rattle.cs_index.specs.State.{index_of}
use Rattle.cs_reader.proofs.Living.{shards_counted}
use Rattle.cs_reader.proofs.loads.live_count.Goals as goal

pub returns : goal.returns
returns c = shards_counted (index_of c.args.index.now) c.live_count.result c.live_count.ensures
