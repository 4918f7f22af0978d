use Rattle.cs_chunk.proofs.chunk_puts.put_chunks.Goals as goal

pub returns-in-Some-clause-worn : goal.returns-in-Some-clause-worn
returns-in-Some-clause-worn c = (
  λ e. (c.in-Some.ensures.small, c.put.ensures.worn.0 e),
  λ both. c.put.ensures.worn.1 both.1,
)
