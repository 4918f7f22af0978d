use Rattle.cs_chunk.proofs.Digests.{agree, one_or_two}
use Rattle.cs_chunk.proofs.chunk_laws.places_tell_digests.Goals as goal

pub returns-clause-digests : goal.returns-clause-digests
returns-clause-digests c = agree

pub returns-clause-bytes : goal.returns-clause-bytes
returns-clause-bytes c = one_or_two
