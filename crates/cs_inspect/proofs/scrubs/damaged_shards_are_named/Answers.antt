use Rattle.cs_inspect.proofs.Hiding.{faults_named, named_faults}
use Rattle.cs_inspect.proofs.scrubs.damaged_shards_are_named.Goals as goal

pub returns-clause-hides : goal.returns-clause-hides
returns-clause-hides c x view index found scrubbed id = faults_named x view index found scrubbed id

pub returns-clause-others : goal.returns-clause-others
returns-clause-others c x view index found before after scrubbed caused not id = named_faults x view index found scrubbed id before after caused not
