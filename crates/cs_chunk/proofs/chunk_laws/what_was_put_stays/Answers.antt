use Rattle.cs_chunk.proofs.Staying.{below_reset, stays_appended}
use Rattle.cs_chunk.proofs.chunk_laws.what_was_put_stays.Goals as goal

pub returns-clause-append : goal.returns-clause-append
returns-clause-append c = stays_appended

pub returns-clause-apart : goal.returns-clause-apart
returns-clause-apart c = stays_appended

pub returns-clause-reset : goal.returns-clause-reset
returns-clause-reset c = below_reset
