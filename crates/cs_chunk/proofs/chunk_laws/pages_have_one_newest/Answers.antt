use Rattle.cs_chunk.proofs.Newest.{one_view}
use Rattle.cs_chunk.proofs.chunk_laws.pages_have_one_newest.Goals as goal

pub returns : goal.returns
returns c = one_view
