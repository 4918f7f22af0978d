use Rattle.cs_check.proofs.RunSteps.{plain_run, version_run}
use Rattle.cs_check.proofs.name_runs.one_run.Goals as goal

pub returns-in-Plain : goal.returns-in-Plain
returns-in-Plain c = rw c.in-Plain.is (plain_run c.on_writes.result c.args.first c.in-Plain.number c.on_writes.ensures.plain c.on_writes.ensures.version)

pub returns-in-Version : goal.returns-in-Version
returns-in-Version c = rw c.in-Version.is (version_run c.args.first c.in-Version.family c.in-Version.version c.on_version.result c.on_version.ensures.plain c.on_version.ensures.version)
