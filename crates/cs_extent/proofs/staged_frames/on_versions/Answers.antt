use Rattle.cs_extent.proofs.Staged.{names_versions}
use Rattle.cs_extent.proofs.staged_frames.on_versions.Goals as goal

pub returns-clause-names : goal.returns-clause-names
returns-clause-names c = names_versions c.in-Ok.versions c.args.family c.args.version c.in-Ok.ensures.plain c.in-Ok.ensures.version
